-- A tree of the forms that are served, whose conditions are spelled, is plain.
use Rattle.std.proofs.Common.{◌≡◌, Bool, true, ◌&&◌, List, [], ◌∷◌, None, is_none}
use Rattle.std.specs.List.{AllByRecursion, list_all}
use Rattle.expr_tree.specs.Leaves.{leaves_in}
use Rattle.expr_tree.proofs.Folds.{each_implies}
use Rattle.graph_ast.specs.declared.query.QueryTree.{QueryTree}
use Rattle.graph_ast.specs.declared.query.Condition.{Condition}
use Rattle.graph_ast.specs.declared.query.PropertyRef.{PropertyRef}
use Rattle.graph_ast.specs.declared.query.Item.{Item}
use Rattle.graph_ast.specs.Patterns.{IsJoined}
use Rattle.graph_meaning.proofs.Members.{both_parts}
use Rattle.pattern_check.specs.Scopes.{wheres}
use Rattle.pattern_check.specs.Served.{is_plain, is_plain_item, has_no_groups, is_served}
use Rattle.pattern_check.specs.Lowerable.{IsPlain}
use Rattle.pattern_check.specs.Lowerable as weak
use Rattle.plain_queries.proofs.PlainUses.{uses_of_leaves}
use Rattle.plain_queries.proofs.SpelledPatterns.{IsSpelled}
use Rattle.plain_queries.proofs.SpelledQueries.{IsSpelledTree}
use Rattle.plain_queries.proofs.SpelledTrees.{spelled_weak}
use Rattle.plain_queries.proofs.WrittenTokens.{none}

abbrev HasNoTest : PropertyRef → Type 0
HasNoTest leaf = leaf.test ≡ None

abbrev HasNoTests : Condition → Type 0
HasNoTests condition = AllByRecursion HasNoTest (leaves_in condition.tree)

all_of : {A : Type 0} (f : A → Bool) (rest : List A) → list_all f rest ≡ true → AllByRecursion (λ a. f a ≡ true) rest
all_of f [] h = tt
all_of f (a ∷ rest) h = let two = both_parts (f a) (list_all f rest) h in (two.0, all_of f rest two.1)

condition_plain : (condition : Condition) → is_plain condition ≡ true → HasNoTests condition
condition_plain condition h =
    each_implies (λ (leaf : PropertyRef). is_none leaf.test ≡ true) HasNoTest (λ leaf k. none leaf.test k) (leaves_in condition.tree)
    (all_of (λ (leaf : PropertyRef). is_none leaf.test) (leaves_in condition.tree) h)

item_parts : (item : Item) → is_plain_item item ≡ true → (item.gather ≡ None) × HasNoTests item.value
item_parts item h =
    let two = both_parts (is_none item.gather) (is_plain item.value) h in
    (none item.gather two.0, condition_plain item.value two.1)

condition_weak : (condition : Condition) → IsSpelled condition → weak.IsSpelled condition
condition_weak condition h = spelled_weak PropertyRef condition.tree h

abbrev IsPlainItem : Item → Type 0
IsPlainItem item = is_plain_item item ≡ true

pub plain_tree : (tree : QueryTree) → is_served tree ≡ true → AllByRecursion IsJoined tree.paths → IsSpelledTree tree → IsPlain tree
unfolding is_served
plain_tree tree served joined spelled =
    let groups = both_parts (list_all has_no_groups tree.paths) (list_all is_plain (wheres tree) && list_all is_plain_item tree.columns) served in
    let two = both_parts (list_all is_plain (wheres tree)) (list_all is_plain_item tree.columns) groups.1 in
    let conditions = each_implies (λ condition. is_plain condition ≡ true) HasNoTests condition_plain (wheres tree) (all_of is_plain (wheres tree) two.0) in
    let items = all_of is_plain_item tree.columns two.1 in
    let values = each_implies IsPlainItem (λ (item : Item). HasNoTests item.value) (λ item h. (item_parts item h).1) tree.columns items in
    let weakly : (item : Item) → IsSpelled item.value → weak.IsSpelled item.value = λ item h. condition_weak item.value h in record {
      no_tests = uses_of_leaves HasNoTest tree conditions values;
      no_gathers = each_implies IsPlainItem (λ (item : Item). item.gather ≡ None) (λ item h. (item_parts item h).0) tree.columns items;
      some_path = spelled.some_path;
      joined = joined;
      wheres = each_implies IsSpelled weak.IsSpelled condition_weak (wheres tree) spelled.wheres;
      columns = each_implies (λ (item : Item). IsSpelled item.value) (λ (item : Item). weak.IsSpelled item.value) weakly tree.columns spelled.columns;
    }
