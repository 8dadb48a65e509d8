use Rattle.std.proofs.Common.{rules, ◌≡◌, IfOk, Result, Ok, Err, subst}
use Rattle.expr_tree.specs.Leaves.{leaves_in}
use Rattle.expr_tree.proofs.Folds.{each_from_all}
use Rattle.sql_reader.specs.Levels.{reach_of}
use Rattle.sql_reader.specs.Queries.{leaf_made, value_made}
use Rattle.sql_reader.proofs.queries.value_made.Goals as goal

lifted : {A E : Type 0} (P Q : A → Type 0) → ((a : A) → P a → Q a) → (r : Result A E) → IfOk r P → IfOk r Q
lifted P Q f (Ok a) h = f a h
lifted P Q f (Err e) h = tt

pub returns : goal.returns
returns c = lifted _ (λ made. made ≡ value_made (reach_of c.args.scope.now) c.args.value.now)
    (λ made exact. exact (leaf_made (reach_of c.args.scope.now))
    (each_from_all _ (λ l r post. subst (λ x. IfOk r (λ made. made ≡ leaf_made (reach_of c.args.scope.now) x)) post.shows (let called = post.says.met in search rules))
    (leaves_in c.args.value.now.tree))) c.map_leaves.result c.map_leaves.ensures.exact
