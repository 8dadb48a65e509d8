use Rattle.std.proofs.Common.{◌≡◌, ◌++◌, ◌∷◌, [], List, map, take, ap, ap₂, sym, subst, ◌∙◌}
use Rattle.std.proofs.lemmas.List.{take_more}
use Rattle.multisets.specs.Bags.{IsIn}
use Rattle.graph_meaning.proofs.Members.{from_map}
use Rattle.sql_algebra.specs.declared.tree.Conjunct.{Conjunct}
use Rattle.sql_algebra.specs.declared.tree.Conjunct.TheVariants.{Plain}
use Rattle.path_lowering.proofs.MemberSteps.{item_in}
use Rattle.shortest_lowering.proofs.copies.copy_plain.Goals as goal
use Rattle.shortest_lowering.proofs.copies.copy_plain.Goals.{in-Plain+in_ok-copy_value+in_ok-push, in_default}

pub loop-conjunct-preserved : goal.loop-conjunct-preserved
loop-conjunct-preserved c =
    elim c.match-conjunct.branch [
      | in-Plain+in_ok-copy_value+in_ok-push w ↦
          w.all-is ∙ w.in_ok-push.ensures.ok
          ∙ ap₂ (λ l x. l ++ x ∷ []) c.loop-conjunct.invariant (ap Plain w.in_ok-copy_value.ensures ∙ sym w.in-Plain.is)
          ∙ ap (λ x. take c.loop-conjunct.conjunct-index c.args.conjuncts.now ++ x ∷ []) c.conjunct-item.is
          ∙ sym (take_more c.args.conjuncts.now c.loop-conjunct.conjunct-index c.conjunct-item.result c.loop-conjunct-test.true)
      | in_default w ↦
          let there = item_in c.args.conjuncts.now c.loop-conjunct.conjunct-index c.conjunct-item.result c.conjunct-item.is c.loop-conjunct-test.true in
          let of = from_map Plain c.conjunct-item.result c.requires.conditions (subst (λ (l : List Conjunct). IsIn c.conjunct-item.result l) c.requires.are there) in
          absurd (w.in_default.not-Plain of.0 (sym of.2))
    ]
