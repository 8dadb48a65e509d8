use Rattle.std.proofs.Common.{◌≡◌, ◌∙◌, List, None, Some, ap, sym, map, option_map}
use Rattle.first_faults.specs.Places.{first_place}
use Rattle.pattern_check.specs.declared.mentions.Mention.{Mention}
use Rattle.pattern_check.specs.Scopes.{Declaration, first_declaration}
use Rattle.pattern_check.specs.Mentions.{kind_of, said}
use Rattle.pattern_check.specs.ByName.{names_where, any}
use Rattle.pattern_check.proofs.NameLemmas.{first_kind, kind_there}
use Rattle.pattern_check.proofs.declared.Declared.kind.Goals as goal

pub returns-in-None : goal.returns-in-None
returns-in-None c =
    let ms : List Mention = c.self.inside.all.items in
    let e : first_place c.args.name.now (names_where any (map said ms)) ≡ None =
    ap (first_place c.args.name.now) (sym c.self.invariant.0) ∙ ap (λ n. first_place n c.self.inside.names) (sym c.as_bytes.ensures.value) ∙ sym c.place.ensures ∙ c.in-None.is in
    sym (ap (λ o. option_map kind_of (kind_there o ms)) e) ∙ first_kind c.args.name.now ms
    ∙ ap (λ l. option_map (λ (first : Declaration). first.kind) (first_declaration l c.args.name.now)) c.self.view_is

pub returns-in-Some : goal.returns-in-Some
returns-in-Some c =
    let ms : List Mention = c.self.inside.all.items in
    let e : first_place c.args.name.now (names_where any (map said ms)) ≡ Some c.in-Some.place =
    ap (first_place c.args.name.now) (sym c.self.invariant.0) ∙ ap (λ n. first_place n c.self.inside.names) (sym c.as_bytes.ensures.value) ∙ sym c.place.ensures ∙ c.in-Some.is in
    ap (option_map kind_of) (c.kind_at.ensures ∙ ap (λ l. kind_there (Some c.in-Some.place) l) c.as_slice.ensures.value)
    ∙ sym (ap (λ o. option_map kind_of (kind_there o ms)) e) ∙ first_kind c.args.name.now ms
    ∙ ap (λ l. option_map (λ (first : Declaration). first.kind) (first_declaration l c.args.name.now)) c.self.view_is
