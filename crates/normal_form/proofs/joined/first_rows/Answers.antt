use Rattle.std.proofs.Common.{◌≡◌, ◌<◌, ℕ, List, [], ◌∷◌, ◌++◌, map, take, length, Bor, sym, ap, ap₂, ◌∙◌, refl}
use Rattle.std.proofs.lemmas.List.{nil_from_length}
use Rattle.std.proofs.lemmas.Bool.Decides.{Decides-eqb}
use Rattle.pgq_base.specs.declared.name.Name.{Name}
use Rattle.normal_form.specs.declared.rows.Costed.{Costed}
use Rattle.normal_form.specs.Rows.{seen, joined}
use Rattle.normal_form.proofs.RowLemmas.{first_row}
use Rattle.normal_form.proofs.RowsPaid.{first_given, some_there}
use Rattle.normal_form.proofs.joined.first_rows.Goals as goal

abbrev named : Bor Name → List ℕ
named n = n.now

pub returns-then-is_empty : goal.returns-then-is_empty
returns-then-is_empty c =
    let none : c.args.lists.now ≡ [] = nil_from_length c.args.lists.now ((Decides-eqb (length c.args.lists.now) 0).0 (sym c.is_empty.ensures ∙ c.if-is_empty.true)) in
    ap (map (map seen)) (c.in_ok-push.ensures.ok ∙ ap₂ (λ xs x. xs ++ x ∷ []) c.new-rows.ensures c.new.ensures)
    ∙ sym (first_row (map named c.args.names.now))
    ∙ ap (λ (l : List (List Costed)). joined (map named c.args.names.now) (take 1 (map (map seen) l))) (sym none)

pub returns : goal.returns
returns c =
    let some : 0 < length c.args.lists.now = some_there (length c.args.lists.now) (sym c.is_empty.ensures ∙ c.if-is_empty.false) in
    first_given (map named c.args.names.now) c.args.lists.now 0 _ c.push.new.self _ c.index-lists-0.result _ some c.index-lists-0.is c.as_slice.ensures c.as_slice-2.ensures
    c.in_ok-extend_all.field-0 c.in_ok-extend_all.ensures c.in-Some.rows c.in-Some.is refl
    (c.in_ok-push.ensures.ok ∙ ap₂ (λ xs x. xs ++ x ∷ []) c.new-rows.ensures c.new.ensures)
