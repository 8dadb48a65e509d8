-- The conditions and the items of a query text are spelled, and it has some path patterns and some items.
use Rattle.std.proofs.Common.{◌≡◌, refl, subst, ℕ, zero, suc, ◌≤◌, Option, Some, option_to_list, List, [], ◌∷◌, length, pos, true, arith}
use Rattle.std.specs.List.{AllByRecursion, flat_map}
use Rattle.pgq_base.specs.declared.refusal.Span.{Span}
use Rattle.pgq_base.specs.declared.value.Value.TheVariants.{Number}
use Rattle.sql_lexer.specs.declared.token.Token.{Token}
use Rattle.expr_tree.specs.declared.tree.Expr.TheVariants.{Lit}
use Rattle.sql_lexer.specs.Texts.{AreTokens}
use Rattle.graph_ast.specs.declared.schema.Named.{Named}
use Rattle.graph_ast.specs.declared.query.Condition.{Condition}
use Rattle.graph_ast.specs.declared.query.Item.{Item}
use Rattle.graph_ast.specs.declared.query.PathTree.{PathTree}
use Rattle.graph_ast.specs.declared.query.PropertyRef.{PropertyRef}
use Rattle.graph_ast.specs.declared.query.QueryTree.{QueryTree}
use Rattle.token_grammar.specs.Rules.{within}
use Rattle.token_reading.specs.Tokens.{class}
use Rattle.condition_grammar.specs.Conditions.{Inside}
use Rattle.pattern_check.specs.Scopes.{path_conditions, wheres}
use Rattle.pattern_check.proofs.Factors.{together}
use Rattle.pattern_parser.specs.Insides.{Own, HeldInside, Production, list}
use Rattle.pattern_parser.specs.Tests.{Tree}
use Rattle.pattern_parser.specs.Queries.{where_part, filler, part, count_gather, leaf_gather, item_rest, after_word, first_member, item, tree_of, table, query, inside}
use Rattle.pattern_parser.specs.Outcomes.{SpellsQuery}
use Rattle.plain_queries.proofs.WrittenTokens.{AreWritten, tokens_written}
use Rattle.plain_queries.proofs.RuleValues.{Parts, Of, Given, Gives, Any, IfGiven, Each, any_gives, mapped_gives, seq_gives, either_gives, opt_gives, many_gives, after_gives}
use Rattle.plain_queries.proofs.RuleValues.{before_gives, parens_gives}
use Rattle.plain_queries.proofs.SpelledTrees.{is_spelled}
use Rattle.plain_queries.proofs.SpelledNodes.{Spelled, SomeSpelled, TwoSpelled, literal_spelled, not_spelled}
use Rattle.plain_queries.proofs.SpelledConditions.{Inner, condition_spelled, operands_spelled, members_spelled, after_name_spelled, test_spelled, test_from_spelled}
use Rattle.plain_queries.proofs.SpelledConditions.{more_members_spelled}
use Rattle.plain_queries.proofs.SpelledPatterns.{IsSpelled, AreSpelled, option_spelled, ContentSpelled, PartSpelled, PathSpelled, joined_spelled, path_spelled}

-- it has path patterns and items, whose conditions are spelled
pub record IsSpelledTree (tree : QueryTree) : Type 0 where
  pub some_path : 1 ≤ length tree.paths
  pub wheres : AreSpelled (wheres tree)
  pub some_column : 1 ≤ length tree.columns
  pub columns : AllByRecursion (λ (own : Item). IsSpelled own.value) tree.columns

abbrev ItemSpelled : Of Item
ItemSpelled own = IsSpelled own.value

abbrev Items : Of (List Item)
Items items = (1 ≤ length items) × Each ItemSpelled items

abbrev Paths : Of (List PathTree)
Paths paths = (1 ≤ length paths) × Each PathSpelled paths

-- what an item's first member, or a word, is made into
abbrev ItemLed : Of (Tree → Item)
ItemLed f = (c : Tree) → Spelled c → ItemSpelled (f c)

abbrev ItemBehind : Of (Named → Item)
ItemBehind f = (w : Named) → ItemSpelled (f w)

-- the value of an item that aggregates
one_spelled : is_spelled {L = PropertyRef} (Lit (Number (pos 1))) ≡ true
one_spelled = literal_spelled (record { from = 0; to = 0 }) (Number (pos 1)) refl

some : {V : Type 0} (v : V) (vs : List V) → 1 ≤ length (v ∷ vs)
some v vs = omega arith

paths_spelled : (paths : List PathTree) → Each PathSpelled paths → AreSpelled (flat_map path_conditions paths)
paths_spelled [] h = tt
paths_spelled (own ∷ paths) h = together IsSpelled (path_conditions own) (flat_map path_conditions paths) h.0 (paths_spelled paths h.1)

tree_spelled : (graph : Named) (word : Span) (paths : List PathTree) (condition : Option Condition) (items : List Item) → Paths paths → IfGiven IsSpelled condition → Items items
    → IsSpelledTree (tree_of graph word paths condition items)
unfolding wheres
tree_spelled graph word paths condition items p c i = record {
  some_path = p.0;
  wheres = together IsSpelled (flat_map path_conditions paths) (option_to_list condition) (paths_spelled paths p.1) (option_spelled condition c);
  some_column = i.0;
  columns = i.1;
}

-- what stands between brackets
abbrev HeldSpelled : (k : Inside Own) → Of (HeldInside k)
HeldSpelled Inside.condition = Spelled
HeldSpelled Inside.operands = SomeSpelled
HeldSpelled Inside.members = TwoSpelled
HeldSpelled (Inside.own Own.filler) = ContentSpelled
HeldSpelled (Inside.own Own.part) = PartSpelled
HeldSpelled (Inside.own Own.label_group) = Any
HeldSpelled (Inside.own Own.variables) = Any
HeldSpelled (Inside.own Own.counted) = Any
HeldSpelled (Inside.own Own.property) = Any
HeldSpelled (Inside.own Own.items) = Items
HeldSpelled (Inside.own Own.table) = IsSpelledTree

module _ {b : Parts} (held : (k : Inside Own) → Given (b k) (HeldSpelled k)) where
  conditions : Inner b
  conditions = record { condition = held Inside.condition; operands = held Inside.operands; members = held Inside.members }

  where_spelled : Gives b where_part IsSpelled
  unfolding where_part
  where_spelled = mapped_gives (after_gives (condition_spelled conditions)) (λ c h. h)

  filler_spelled : Gives b filler ContentSpelled
  unfolding filler
  filler_spelled = mapped_gives (seq_gives any_gives (seq_gives any_gives (opt_gives where_spelled))) (λ d h. h.1.1)

  part_spelled : Gives b part PartSpelled
  unfolding part
  part_spelled =
      mapped_gives (seq_gives any_gives (seq_gives (joined_spelled (held (Inside.own Own.filler)) (held (Inside.own Own.part))) (opt_gives where_spelled))) (λ d h. h.1)

  -- ---- items

  rest_spelled : Gives b item_rest ItemLed
  unfolding item_rest
  rest_spelled = mapped_gives (seq_gives (more_members_spelled conditions) any_gives) (λ d h c p. h.0 c p)

  count_spelled : Gives b count_gather ItemBehind
  unfolding count_gather
  count_spelled = mapped_gives any_gives (λ d h w. one_spelled)

  leaf_spelled : Gives b leaf_gather ItemBehind
  unfolding leaf_gather
  leaf_spelled = mapped_gives any_gives (λ d h w. one_spelled)

  word_spelled : Gives b after_word ItemBehind
  unfolding after_word
  word_spelled = mapped_gives (seq_gives (after_name_spelled conditions) rest_spelled) (λ d h w. h.1 (d.0 w) (h.0 w))

  first_spelled : Gives b first_member Spelled
  unfolding first_member
  first_spelled = either_gives (mapped_gives (seq_gives any_gives (test_spelled conditions)) (λ d h. not_spelled (Some d.0) d.1 h.1)) (test_from_spelled conditions _)

  item_spelled : Gives b item ItemSpelled
  unfolding item
  item_spelled =
      either_gives (mapped_gives (seq_gives any_gives (either_gives count_spelled word_spelled)) (λ d h. h.1 d.0))
      (either_gives (mapped_gives (seq_gives any_gives (either_gives leaf_spelled word_spelled)) (λ d h. h.1 d.0))
      (mapped_gives (seq_gives first_spelled rest_spelled) (λ d h. h.1 d.0 h.0)))

  list_spelled : {V : Type 0} {r : Production V} {P : Of V} → Gives b r P → Gives b (list r) (λ vs. (1 ≤ length vs) × Each P vs)
  list_spelled t = mapped_gives (seq_gives t (many_gives (after_gives t))) (λ d h. (some d.0 d.1, h))

  -- ---- the whole text

  table_spelled : Gives b table IsSpelledTree
  unfolding table
  table_spelled =
      mapped_gives (seq_gives any_gives (seq_gives any_gives (seq_gives (list_spelled (path_spelled (held (Inside.own Own.filler)) (held (Inside.own Own.part))))
      (seq_gives (opt_gives where_spelled) (after_gives (parens_gives Own.items Items (held (Inside.own Own.items))))))))
      (λ d h. tree_spelled d.0 d.1.0 d.1.1.0 d.1.1.1.0 d.1.1.1.1 h.1.1.0 h.1.1.1.0 h.1.1.1.1)

  inside_spelled : (k : Inside Own) → Gives b (inside k) (HeldSpelled k)
  inside_spelled Inside.condition = condition_spelled conditions
  inside_spelled Inside.operands = operands_spelled conditions
  inside_spelled Inside.members = members_spelled conditions
  inside_spelled (Inside.own Own.filler) = filler_spelled
  inside_spelled (Inside.own Own.part) = part_spelled
  inside_spelled (Inside.own Own.label_group) = any_gives
  inside_spelled (Inside.own Own.variables) = any_gives
  inside_spelled (Inside.own Own.counted) = any_gives
  inside_spelled (Inside.own Own.property) = any_gives
  inside_spelled (Inside.own Own.items) = list_spelled item_spelled
  inside_spelled (Inside.own Own.table) = table_spelled

  query_spelled : Gives b query IsSpelledTree
  unfolding query
  query_spelled = after_gives (after_gives (after_gives (after_gives (before_gives (parens_gives Own.table IsSpelledTree (held (Inside.own Own.table)))))))

-- what stands between brackets, however deep
held_spelled : (n : ℕ) (k : Inside Own) → Given (within class inside n k) (HeldSpelled k)
unfolding within
held_spelled zero k = λ d i. absurd d
held_spelled (suc n) k = (inside_spelled (held_spelled n) k).holds

pub spelled_tree : (text : List ℕ) (tokens : List Token) (tree : QueryTree) → AreTokens text tokens → SpellsQuery tokens tree → IsSpelledTree tree
spelled_tree text tokens tree are (n, (d, is, means)) =
    subst IsSpelledTree means ((query_spelled (held_spelled n)).holds d (subst AreWritten is (tokens_written text tokens are)))
