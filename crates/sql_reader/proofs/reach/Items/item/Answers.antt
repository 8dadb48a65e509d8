use Rattle.std.proofs.Common.{◌≡◌, ◌∙◌, List, refl, sym, ap, Option, None, Some, option_map, option_copied, slice_get, bytes_eq}
use denote.Ref.{Bor}
use Rattle.sql_reader.specs.declared.reach.Item.{Item}
use Rattle.sql_reader.specs.Held.{item_held}
use Rattle.sql_reader.specs.Reaches.{Placed, item_of}
use Rattle.first_faults.specs.Places.{first_place}
use Rattle.sql_reader.proofs.Lookups.{not_found, found, find_shown}
use Rattle.sql_reader.proofs.reach.Items.item.Goals as goal

shown : (o : Option (Bor Item)) → option_map (λ (item : Bor Item). item_held item.now) o ≡ option_map item_held (option_copied o)
shown None = refl
shown (Some item) = refl

pub returns-in-None : goal.returns-in-None
returns-in-None c =
    let items : List Item = c.self.inside.items.items in
    ap (option_map item_held) (not_found (λ (i : Item). i.alias.now) c.args.alias.now items
    (ap (first_place c.args.alias.now) (sym c.self.invariant) ∙ ap (λ n. first_place n c.self.inside.aliases) (sym c.as_bytes.ensures.value) ∙ sym c.place.ensures ∙ c.in-None.is))
    ∙ find_shown item_held (λ (p : Placed). bytes_eq p.alias c.args.alias.now) items
    ∙ ap (λ r. item_of r c.args.alias.now) c.self.view_is

pub returns-in-Some : goal.returns-in-Some
returns-in-Some c =
    let items : List Item = c.self.inside.items.items in
    shown c.item_at.result ∙ ap (option_map item_held) (c.item_at.ensures ∙ ap (λ l. slice_get l c.in-Some.place) c.as_slice.ensures.value
    ∙ found (λ (i : Item). i.alias.now) c.args.alias.now items c.in-Some.place
    (ap (first_place c.args.alias.now) (sym c.self.invariant) ∙ ap (λ n. first_place n c.self.inside.aliases) (sym c.as_bytes.ensures.value) ∙ sym c.place.ensures ∙ c.in-Some.is))
    ∙ find_shown item_held (λ (p : Placed). bytes_eq p.alias c.args.alias.now) items
    ∙ ap (λ r. item_of r c.args.alias.now) c.self.view_is
