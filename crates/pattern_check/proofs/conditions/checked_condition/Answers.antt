use Rattle.std.proofs.Common.{rules, ◌≡◌, IfOk, Result, Ok, Err, subst}
use Rattle.expr_tree.specs.declared.tree.Expr.TheVariants.{Leaf}
use Rattle.expr_tree.specs.Leaves.{leaves_in}
use Rattle.expr_tree.proofs.Folds.{each_from_all}
use Rattle.graph_ast.specs.declared.query.PropertyRef.{PropertyRef}
use Rattle.pattern_check.specs.Checked.{leaf_for, checked_condition}
use Rattle.pattern_check.proofs.conditions.checked_condition.Goals as goal

lifted : {A E : Type 0} (P Q : A → Type 0) → ((a : A) → P a → Q a) → (r : Result A E) → IfOk r P → IfOk r Q
lifted P Q f (Ok a) h = f a h
lifted P Q f (Err e) h = tt

pub returns : goal.returns
returns c =
    let catalog = c.args.catalog.now in
    let graph = c.args.graph.now in
    lifted _ (λ made. made ≡ checked_condition catalog graph c.args.condition.now)
    (λ made exact. exact (λ (leaf : PropertyRef). Leaf (leaf_for catalog graph leaf))
    (each_from_all _ (λ l r post. subst (λ x. IfOk r (λ made. made ≡ Leaf (leaf_for catalog graph x))) post.shows (let called = post.says.met in search rules))
    (leaves_in c.args.condition.now.tree)))
    c.map_leaves.result c.map_leaves.ensures.exact
