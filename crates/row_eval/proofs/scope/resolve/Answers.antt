use Rattle.std.proofs.Common.{◌≡◌, IfOk, Result, Ok, Err, subst, sym, ap}
use Rattle.expr_tree.specs.Leaves.{leaves_in}
use Rattle.expr_tree.proofs.Folds.{each_from_all}
use Rattle.row_eval.specs.Scopes.{placed, leaf_expr_of}
use Rattle.row_eval.proofs.scope.resolve.Goals as goal

if_ok : {A E : Type 0} (r : Result A E) (P Q : A → Type 0) → ((x : A) → P x → Q x) → IfOk r P → IfOk r Q
if_ok (Ok x) P Q f h = f x h
if_ok (Err e) P Q f h = tt

pub returns : goal.returns
returns c =
    if_ok c.map_leaves.result _ _ (λ e h. h (leaf_expr_of c.args.catalog.now (placed c.args.reach.now))
    (each_from_all _ (λ l r w. subst (λ q. IfOk q (λ x. x ≡ leaf_expr_of c.args.catalog.now (placed c.args.reach.now) l)) (sym w.says.met)
    (ap (leaf_expr_of c.args.catalog.now (placed c.args.reach.now)) w.shows)) (leaves_in c.args.expr.now))) c.map_leaves.ensures.exact
