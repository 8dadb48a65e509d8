use Rattle.std.proofs.Common.{◌≡◌, refl, ◌∙◌, Ordering, Less, Equal, Greater}
use Rattle.std.specs.Ordering.{is_eq, nat_cmp}
use Rattle.std.specs.Cmp.Lexicographic.{slice_cmp, texts_ties}
use Rattle.expr_tree.specs.declared.tree.Comparison.TheVariants as op
use Rattle.expr_tree.specs.Meaning.{holds, known}
use Rattle.sql_algebra.specs.Tuples.{is_true}
use Rattle.row_eval.proofs.access.are_same.Goals as goal

told : (o : Ordering) → is_eq o ≡ is_true (known (holds op.Equal o))
told Equal = refl
told Less = refl
told Greater = refl

pub returns : goal.returns
returns c = c.eq.ensures ∙ texts_ties c.args.a.now c.args.b.now ∙ told (slice_cmp nat_cmp c.args.a.now c.args.b.now)
