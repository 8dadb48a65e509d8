-- The spans of a query's tree lie in the text whose tokens it has.
use Rattle.std.proofs.Common.{subst, ℕ, zero, suc, ◌≤◌, Option, Some, List, [], ◌∷◌, ◌++◌, flat_map, pos, arith}
use Rattle.std.specs.List.{AllByRecursion}
use Rattle.pgq_base.specs.declared.refusal.Span.{Span}
use Rattle.pgq_base.specs.declared.value.Value.TheVariants.{Number}
use Rattle.sql_lexer.specs.declared.token.Token.{Token}
use Rattle.sql_lexer.specs.Texts.{AreInOrder}
use Rattle.expr_tree.specs.declared.tree.Expr.TheVariants as v
use Rattle.graph_ast.specs.declared.schema.Named.{Named}
use Rattle.graph_ast.specs.declared.query.Condition.{Condition}
use Rattle.graph_ast.specs.declared.query.LabelExpr.{LabelExpr}
use Rattle.graph_ast.specs.declared.query.ModeWord.{ModeWord}
use Rattle.graph_ast.specs.declared.query.Union.{Union}
use Rattle.graph_ast.specs.declared.query.Item.{Item}
use Rattle.graph_ast.specs.declared.query.GatherKind.{GatherKind}
use Rattle.graph_ast.specs.declared.query.GatherKind.TheVariants.{Count}
use Rattle.graph_ast.specs.declared.query.PathTree.{PathTree}
use Rattle.graph_ast.specs.declared.query.PropertyRef.{PropertyRef}
use Rattle.graph_ast.specs.declared.query.QueryTree.{QueryTree}
use Rattle.graph_ast.specs.Spans.{LiesIn}
use Rattle.token_grammar.specs.Rules.{within}
use Rattle.token_marks.specs.declared.mark.Mark.TheVariants as m
use Rattle.token_reading.specs.Tokens.{class}
use Rattle.condition_grammar.specs.Spans.{reach}
use Rattle.condition_grammar.specs.Conditions as g
use Rattle.condition_grammar.specs.Conditions.{Inside}
use Rattle.pattern_parser.specs.declared.pieces.Counted.{Counted}
use Rattle.pattern_parser.specs.declared.pieces.Placed.{Placed}
use Rattle.pattern_parser.specs.Insides.{Own, HeldOwn, Production, name, list, parens, condition_of}
use Rattle.pattern_parser.specs.Patterns.{label_union}
use Rattle.pattern_parser.specs.Tests.{Tree, is_plain}
use Rattle.pattern_parser.specs.Queries.{where_part, label_part, filler, part, alias, item_of, gather_of, count_gather, kind_of, leaf_gather, counted, property, is_ungathered}
use Rattle.pattern_parser.specs.Queries.{item_rest, after_word, first_member, item_with, item, tree_of, table, query, inside}
use Rattle.pattern_parser.specs.Outcomes.{SpellsQuery}
use Rattle.graph_ast.specs.QuerySpans.{if_given, of_name, of_names, of_mode, of_label, of_condition, of_union, of_path, of_item, of_tree, EachSpanHas}
use Rattle.pattern_parser.proofs.Ranges.{In, AllIn, Holds, Both, IfGiven, Given, Gives, Bracketed, any_gives, mapped_gives, seq_gives, either_gives, opt_gives, many_gives}
use Rattle.pattern_parser.proofs.Ranges.{nest_gives}
use Rattle.pattern_parser.proofs.SpanLists.{wider, all_wider, all_append, Spans, left_all, right_all, given_all, chain_all}
use Rattle.pattern_parser.proofs.PatternSpans.{the_in, name_in, after_in, inside_all, label_union_in, mode_part_in, of_content}
use Rattle.pattern_parser.proofs.PathSpans.{of_placed, of_part_content, union_in, path_in}
use Rattle.pattern_parser.proofs.TreeIn.{TreeIn, tree_wider, literal_in, leaf_spans, not_if_in}
use Rattle.pattern_parser.proofs.TestSpans.{HeldIn, NamesIn, of_counted, named_in, after_name_in, test_from_in, condition_in, more_members_in, operands_in, members_in}

condition_all : (at end : ℕ) (c : Tree) → TreeIn at end c → AllIn at end (of_condition (condition_of c))
condition_all at end c h = all_append at end c.spans (leaf_spans c.tree) h.nodes h.leaves

-- an item, of a condition's first member or of a name that stands before
abbrev ItemOfTree : Holds (Tree → Item)
ItemOfTree at end f = (start : ℕ) (c : Tree) → TreeIn start at c → AllIn start end (of_item (f c))

abbrev ItemOfName : Holds (Named → Item)
ItemOfName at end f = (start : ℕ) (word : Named) → In start at word.span → AllIn start end (of_item (f word))

item_all : (at middle end : ℕ) (c : Tree) (name : Option Named) → at ≤ middle → middle ≤ end → TreeIn at middle c → IfGiven (Spans of_name) middle end name →
    AllIn at end (of_item (item_of c name))
item_all at middle end c name l u h i =
    let t : TreeIn at end c = tree_wider (omega arith) u c h in (
      t.own,
      all_append at end (of_condition (condition_of c)) (if_given of_name name ++ []) (condition_all at end c t)
          (all_append at end (if_given of_name name) [] (all_wider l (omega arith) (if_given of_name name) (given_all of_name middle end name i)) tt),
    )

gather_all : (at end : ℕ) (kind : GatherKind) (c : Counted) (closing : Span) (own word : Named) → In at end (reach word.span closing) → AllIn at end (of_counted c) →
    In at end own.span → AllIn at end (of_item (gather_of kind c closing own word))
gather_all at end kind c closing own word h i j =
    let one_in = literal_in at end (reach word.span closing) (Number (pos 1)) h in (
      h,
      all_append at end ((reach word.span closing ∷ []) ++ leaf_spans (v.Lit (Number (pos 1)))) (own.span ∷ of_counted c)
          (all_append at end (reach word.span closing ∷ []) (leaf_spans (v.Lit (Number (pos 1)))) (h, tt) one_in.leaves) (j, i),
    )

-- what is gathered stands in parentheses behind its word
gathered_all : (at end : ℕ) (kind : Named → GatherKind) (d : (Span × Counted × Span) × Named) → Both (Bracketed (Spans of_counted)) (Spans of_name) at end d →
    ItemOfName at end (λ word. gather_of (kind word) d.0.1 d.0.2 d.1 word)
gathered_all at end kind d h start word i =
    let b = h.first in
    let l : start ≤ b.left = omega (arith, i.from, i.ordered, i.to, b.opening.from, b.opening.ordered, b.opening.to) in
    let u : b.right ≤ end = omega (arith, b.closing.from, b.closing.ordered, b.closing.to, h.upper) in
    let own : In start end (reach word.span d.0.2) = record {
      from = i.from;
      ordered = omega (arith, i.ordered, i.to, b.opening.from, b.opening.ordered, b.opening.to, b.between, b.closing.from, b.closing.ordered);
      to = omega (arith, b.closing.to, h.upper);
    } in
    gather_all start end (kind word) d.0.1 d.0.2 d.1 word own (all_wider l u (of_counted d.0.1) b.held)
    (wider (omega (arith, l, b.between, b.closing.from, b.closing.ordered, b.closing.to)) (omega arith) h.second.0)

list_in : (n : ℕ) {V : Type 0} {x : Production V} (f : V → List Span) → Gives n x (Spans f) → Gives n (list x) (Spans (flat_map f))
list_in n f g = mapped_gives n (seq_gives n g (many_gives n (after_in n f g)))
    (λ at end le d h. all_append at end (f d.0) (flat_map f d.1) (left_all f (λ a b i. i) h) (right_all (flat_map f) (λ a b i. chain_all f a b d.1 i) h))

counted_all : (at end : ℕ) (d : Named × Option Named) → Both (Spans of_name) (IfGiven (Spans of_name)) at end d →
    AllIn at end (of_counted (record { variable = d.0; property = d.1 }))
counted_all at end d h = (wider (omega arith) h.upper h.first.0, all_wider h.lower (omega arith) (if_given of_name d.1) (given_all of_name h.middle end d.1 h.second))

content_all : (at end : ℕ) (d : Option Named × (Option LabelExpr × Option Condition)) → Both (IfGiven (Spans of_name))
    (Both (IfGiven (Spans of_label)) (IfGiven (Spans of_condition))) at end d →
    AllIn at end (of_content (record { variable = d.0; label = d.1.0; condition = d.1.1 }))
content_all at end d h =
    let i = h.second in
    all_append at end (if_given of_name d.0) (if_given of_label d.1.0 ++ if_given of_condition d.1.1)
    (all_wider (omega arith) h.upper (if_given of_name d.0) (given_all of_name at h.middle d.0 h.first))
    (all_append at end (if_given of_label d.1.0) (if_given of_condition d.1.1) (all_wider h.lower i.upper (if_given of_label d.1.0)
    (given_all of_label h.middle i.middle d.1.0 i.first))
    (all_wider (omega (arith, h.lower, i.lower)) (omega arith) (if_given of_condition d.1.1) (given_all of_condition i.middle end d.1.1 i.second)))

part_all : (at end : ℕ) (d : Option ModeWord × (Placed Union × Option Condition)) → Both (IfGiven (Spans of_mode))
    (Both (Spans (of_placed of_union)) (IfGiven (Spans of_condition))) at end d →
    AllIn at end (of_part_content (record { mode = d.0; body = d.1.0.node; condition = d.1.1 }))
part_all at end d h =
    let i = h.second in
    all_append at end (if_given of_mode d.0) (of_union d.1.0.node ++ if_given of_condition d.1.1)
    (all_wider (omega arith) h.upper (if_given of_mode d.0) (given_all of_mode at h.middle d.0 h.first))
    (all_append at end (of_union d.1.0.node) (if_given of_condition d.1.1) (all_wider h.lower i.upper (of_union d.1.0.node) i.first.1)
    (all_wider (omega (arith, h.lower, i.lower)) (omega arith) (if_given of_condition d.1.1) (given_all of_condition i.middle end d.1.1 i.second)))

table_all : (at end : ℕ) (d : Named × (Span × (List PathTree × (Option Condition × List Item)))) →
    Both (Spans of_name) (Both In (Both (Spans (flat_map of_path)) (Both (IfGiven (Spans of_condition)) (Spans (flat_map of_item))))) at end d →
    AllIn at end (of_tree (tree_of d.0 d.1.0 d.1.1.0 d.1.1.1.0 d.1.1.1.1))
table_all at end d h =
    let i = h.second in
    let j = i.second in
    let k = j.second in
    let paths = d.1.1.0 in
    let c = d.1.1.1.0 in
    let items = d.1.1.1.1 in (
      wider (omega arith) h.upper h.first.0,
      (
        wider h.lower i.upper i.first,
        all_append at end (flat_map of_path paths) (if_given of_condition c ++ flat_map of_item items)
            (all_wider (omega (arith, h.lower, i.lower)) j.upper (flat_map of_path paths) j.first)
            (all_append at end (if_given of_condition c) (flat_map of_item items) (all_wider (omega (arith, h.lower, i.lower, j.lower)) k.upper (if_given of_condition c)
            (given_all of_condition j.middle k.middle c k.first))
            (all_wider (omega (arith, h.lower, i.lower, j.lower, k.lower)) (omega arith) (flat_map of_item items) k.second)),
      ),
    )

module _ (n : ℕ) (inner : (k : Inside Own) → Given (within class inside n k) (HeldIn k)) where
  where_in : Gives n where_part (Spans of_condition)
  unfolding where_part
  where_in = mapped_gives n {P = TreeIn} (mapped_gives n (seq_gives n (any_gives n) (condition_in n inner))
      (λ at end le d h. tree_wider h.lower (omega arith) d.1 h.second)) (λ at end le c h. condition_all at end c h)

  labels_in : Gives n label_union (Spans of_label)
  labels_in = label_union_in n (inner (Inside.own Own.label_group))

  label_part_in : Gives n label_part (Spans of_label)
  unfolding label_part
  label_part_in = either_gives n (after_in n of_label labels_in) (after_in n of_label labels_in)

  filler_in : Gives n filler (Spans of_content)
  unfolding filler
  filler_in = mapped_gives n (seq_gives n (opt_gives n (name_in n)) (seq_gives n (opt_gives n label_part_in) (opt_gives n where_in))) (λ at end le d h. content_all at end d h)

  part_in : Gives n part (Spans of_part_content)
  unfolding part
  part_in = mapped_gives n
      (seq_gives n (opt_gives n (mode_part_in n)) (seq_gives n (union_in n (inner (Inside.own Own.part)) (inner (Inside.own Own.filler))) (opt_gives n where_in)))
      (λ at end le d h. part_all at end d h)

  alias_in : Gives n alias (IfGiven (Spans of_name))
  unfolding alias
  alias_in = opt_gives n (after_in n of_name (name_in n))

  count_gather_in : Gives n count_gather ItemOfName
  unfolding count_gather
  count_gather_in = mapped_gives n (seq_gives n (nest_gives n (inner (Inside.own Own.counted))) (after_in n of_name (name_in n)))
      (λ at end le d h. gathered_all at end (λ word. Count) d h)

  leaf_gather_in : Gives n leaf_gather ItemOfName
  unfolding leaf_gather
  leaf_gather_in = mapped_gives n (seq_gives n (nest_gives n (inner (Inside.own Own.property))) (after_in n of_name (name_in n)))
      (λ at end le d h. gathered_all at end (λ word. kind_of word.name) d h)

  counted_in : Gives n counted (Spans of_counted)
  unfolding counted
  counted_in = mapped_gives n (seq_gives n (name_in n) (opt_gives n (after_in n of_name (name_in n)))) (λ at end le d h. counted_all at end d h)

  property_in : Gives n property (Spans of_counted)
  unfolding property
  property_in = mapped_gives n (seq_gives n (name_in n) (after_in n of_name (name_in n))) (λ at end le d h.
      (wider (omega arith) h.upper h.first.0, all_wider h.lower (omega arith) (of_name d.1) h.second))

  item_rest_in : Gives n item_rest ItemOfTree
  unfolding item_rest
  item_rest_in = mapped_gives n (seq_gives n (more_members_in n inner) alias_in)
      (λ at end le d h start c i. item_all start h.middle end (d.0 c) d.1 (omega (arith, h.lower, i.own.from, i.own.ordered, i.own.to)) h.upper (h.first start c i) h.second)

  after_word_in : Gives n after_word ItemOfName
  unfolding after_word
  after_word_in = mapped_gives n (seq_gives n (after_name_in n inner) item_rest_in) (λ at end le d h start word i. h.second start (d.0 word) (h.first start word i))

  first_member_in : Gives n first_member TreeIn
  unfolding first_member
  first_member_in = either_gives n (mapped_gives n (seq_gives n (the_in n m.Not) (test_from_in n inner is_plain))
      (λ at end le d h. not_if_in at h.middle end (Some d.0) d.1 h.lower h.upper h.first h.second)) (test_from_in n inner is_ungathered)

  item_with_in : (at end : ℕ) (d : Named × (Named → Item)) → Both (Spans of_name) ItemOfName at end d → AllIn at end (of_item (item_with d))
  item_with_in at end d h = h.second at d.0 h.first.0

  item_in : Gives n item (Spans of_item)
  unfolding item
  item_in = either_gives n (mapped_gives n (seq_gives n (named_in n) (either_gives n count_gather_in after_word_in)) (λ at end le d h. item_with_in at end d h))
      (either_gives n (mapped_gives n (seq_gives n (named_in n) (either_gives n leaf_gather_in after_word_in)) (λ at end le d h. item_with_in at end d h))
      (mapped_gives n (seq_gives n first_member_in item_rest_in) (λ at end le d h. h.second at d.0 h.first)))

  items_in : Gives n (parens Own.items) (Spans (flat_map of_item))
  items_in = mapped_gives n (nest_gives n (inner (Inside.own Own.items))) (λ at end le d h. inside_all (flat_map of_item) at end d h)

  table_in : Gives n table (Spans of_tree)
  unfolding table
  table_in = mapped_gives n
      (seq_gives n (name_in n) (seq_gives n (the_in n m.Match) (seq_gives n (list_in n of_path (path_in n (inner (Inside.own Own.part)) (inner (Inside.own Own.filler))))
      (seq_gives n (opt_gives n where_in) (after_in n (flat_map of_item) items_in))))) (λ at end le d h. table_all at end d h)

  names_in : Gives n (g.two_or_more PropertyRef Own HeldOwn name) NamesIn
  names_in = mapped_gives n (seq_gives n (name_in n) (after_in n (flat_map of_name) (list_in n of_name (name_in n))))
      (λ at end le d h. (wider (omega arith) h.upper h.first.0, names_flat at end d.1 (right_all (flat_map of_name) (λ a b i. i) h)))
    where
      names_flat : (at end : ℕ) (names : List Named) → AllIn at end (flat_map of_name names) → AllIn at end (of_names names)
      names_flat at end [] h = tt
      names_flat at end (x ∷ names) h = (h.0, names_flat at end names h.1)

  inside_in : (k : Inside Own) → Gives n (inside k) (HeldIn k)
  inside_in Inside.condition = condition_in n inner
  inside_in Inside.operands = operands_in n inner
  inside_in Inside.members = members_in n inner
  inside_in (Inside.own Own.filler) = filler_in
  inside_in (Inside.own Own.part) = part_in
  inside_in (Inside.own Own.label_group) = labels_in
  inside_in (Inside.own Own.variables) = names_in
  inside_in (Inside.own Own.counted) = counted_in
  inside_in (Inside.own Own.property) = property_in
  inside_in (Inside.own Own.items) = list_in n of_item item_in
  inside_in (Inside.own Own.table) = table_in

  query_in : Gives n query (Spans of_tree)
  unfolding query
  query_in = after_in n of_tree (after_in n of_tree (after_in n of_tree (after_in n of_tree
      (mapped_gives n (seq_gives n {P = Spans of_tree} (mapped_gives n (nest_gives n (inner (Inside.own Own.table))) (λ at end le d h. inside_all of_tree at end d h))
      (any_gives n)) (λ at end le d h. left_all of_tree (λ a b i. i) h)))))

-- what stands between brackets, however deep
inner_in : (n : ℕ) (k : Inside Own) → Given (within class inside n k) (HeldIn k)
unfolding within
inner_in zero k = λ d at end i. absurd d
inner_in (suc n) k = (inside_in n (inner_in n) k).holds

all_lie : (end : ℕ) (spans : List Span) → AllIn 0 end spans → AllByRecursion (LiesIn end) spans
all_lie end [] h = tt
all_lie end (s ∷ spans) h = ((h.0.ordered, h.0.to), all_lie end spans h.1)

pub spans_lie : (end : ℕ) (ts : List Token) (tree : QueryTree) → AreInOrder 0 end ts → SpellsQuery ts tree → EachSpanHas (LiesIn end) tree
spans_lie end ts tree order (n, (d, is, means)) =
    let h = (query_in n (inner_in n)).holds d 0 end (subst (AreInOrder 0 end) is order) in
    all_lie end (of_tree tree) (subst (λ t. AllIn 0 end (of_tree t)) means h)
