-- The spans of a condition stand between those of its tokens.
use Rattle.std.proofs.Common.{◌≡◌, sym, subst, ℕ, ◌≤◌, Bool, true, false, Option, Some, None, List, [], ◌∷◌, ◌++◌, map, flat_map, arith}
use Rattle.std.specs.List.{AllByRecursion}
use Rattle.pgq_base.specs.declared.refusal.Span.{Span}
use Rattle.sql_lexer.specs.declared.token.Token.{Token}
use Rattle.sql_lexer.specs.Texts.{AreInOrder}
use Rattle.token_marks.specs.declared.mark.Mark.{Mark}
use Rattle.token_marks.specs.declared.mark.Mark.TheVariants as m
use Rattle.expr_tree.specs.declared.tree.Comparison.{Comparison}
use Rattle.expr_tree.specs.declared.tree.Test.{Test}
use Rattle.expr_tree.specs.declared.tree.Test.TheVariants as test
use Rattle.expr_tree.specs.declared.tree.Expr.{Expr}
use Rattle.expr_tree.specs.declared.tree.Expr.TheVariants.{Lit, Null, Leaf, Compare, All, Any as AnyOf, Not, Is, InList, Between, Coalesce}
use Rattle.expr_tree.specs.Leaves.{leaves_in}
use Rattle.expr_tree.specs.Forms.{HasLeaves}
use Rattle.expr_tree.proofs.FormLemmas.{leaves}
use Rattle.graph_ast.specs.declared.schema.Named.{Named}
use Rattle.token_grammar.specs.Rules.Rule.{mapped, seq, many, nest}
use Rattle.token_reading.specs.Tokens.{span_of as place_of}
use Rattle.condition_grammar.specs.Classes.{left_parenthesis, right_parenthesis}
use Rattle.condition_grammar.specs.Spans.{node, reach, span_of, last_span, without_first, tree_of, Tail, unless_none, enclosed, compared, ranged, listed, tested, all_of, any_of}
use Rattle.condition_grammar.specs.Spans.{not_if}
use Rattle.condition_grammar.specs.Conditions as g
use Rattle.condition_grammar.specs.Conditions.{Inside}
use Rattle.sql_algebra.specs.declared.text.ColumnRef.{ColumnRef}
use Rattle.sql_algebra.specs.Grammar.{Nested, HeldNested, HeldInside, Production, the, name, leaf, cast, own_operand, test as test_rule, condition}
use Rattle.sql_parser.specs.Conditions.{Condition, list, coalesce, parens, operand, including, predicate_tail, test_tail, negation, conjunction, two_or_more}
use Rattle.sql_parser.specs.Operands.{dotted}
use Rattle.sql_parser.specs.Spans.{select_spans}
use Rattle.sql_parser.proofs.Placed.{Parts, text, not_before, cut, Lies, Lie, wider, wider_all, reach_lies, all_append, all_to, Held, Tells, Then, Any, IfGiven, Each, Widens}
use Rattle.sql_parser.proofs.Placed.{wider_each, any_tells, one_tells, mapped_tells, seq_tells, either_tells, opt_tells, many_tells}

-- ---- a condition between two places

-- the leaves of each form
forms : HasLeaves ColumnRef
forms = leaves

abbrev pub LeafLies : ℕ → ℕ → ColumnRef → Type 0
LeafLies at end l = Lies at end l.alias.span × Lies at end l.column.span

abbrev pub LeavesLie : ℕ → ℕ → List ColumnRef → Type 0
LeavesLie at end ls = AllByRecursion (LeafLies at end) ls

pub record Placed (at end : ℕ) (c : Condition) : Type 0 where
  pub own : Lies at end (span_of c)
  pub nodes : Lie at end c.spans
  pub names : LeavesLie at end (leaves_in c.tree)

pub wider_placed : Widens Placed
wider_placed at end low high c l h p = record {
  own = wider at end low high (span_of c) l h p.own;
  nodes = wider_all at end low high c.spans l h p.nodes;
  names = all_to (LeafLies at end) (LeafLies low high) (leaves_in c.tree)
      (λ leaf q. (wider at end low high leaf.alias.span l h q.0, wider at end low high leaf.column.span l h q.1)) p.names;
}

module _ (at end : ℕ) where
  nodes_of : (cs : List Condition) → Each Placed at end cs → Lie at end (flat_map (λ (c : Condition). c.spans) cs)
  nodes_of [] h = tt
  nodes_of (c ∷ cs) h = all_append (Lies at end) c.spans (flat_map (λ (c : Condition). c.spans) cs) h.0.nodes (nodes_of cs h.1)

  names_of : (cs : List Condition) → Each Placed at end cs → LeavesLie at end (flat_map leaves_in (map tree_of cs))
  names_of [] h = tt
  names_of (c ∷ cs) h = all_append (LeafLies at end) (leaves_in c.tree) (flat_map leaves_in (map tree_of cs)) h.0.names (names_of cs h.1)

  abbrev along : (xs ys : List ColumnRef) → xs ≡ ys → LeavesLie at end ys → LeavesLie at end xs
  along xs ys e h = subst (LeavesLie at end) (sym e) h

  node_placed : (span : Span) (e : Expr ColumnRef) (cs : List Condition) → Lies at end span → Each Placed at end cs → LeavesLie at end (leaves_in e) → Placed at end
      (node span e cs)
  node_placed span e cs s h n = record { own = s; nodes = (s, nodes_of cs h); names = n }

  lone_placed : (span : Span) (e : Expr ColumnRef) → leaves_in e ≡ [] → Lies at end span → Placed at end (node span e [])
  lone_placed span e n s = node_placed span e [] s tt (along (leaves_in e) [] n tt)

  rest_lies : (spans : List Span) → Lie at end spans → Lie at end (without_first spans)
  rest_lies [] h = tt
  rest_lies (s ∷ ss) h = h.1

  enclosed_placed : (a b : Span) (c : Condition) → Lies at end (reach a b) → Placed at end c → Placed at end (enclosed a b c)
  enclosed_placed a b c s p = record { own = s; nodes = (s, rest_lies c.spans p.nodes); names = p.names }

  compared_placed : (op : Comparison) (a b : Condition) → Lies at end (reach (span_of a) (span_of b)) → Placed at end a → Placed at end b → Placed at end (compared op b a)
  compared_placed op a b s p q = node_placed (reach (span_of a) (span_of b)) (Compare op a.tree b.tree) (a ∷ b ∷ []) s (p, (q, tt))
      (along (leaves_in (Compare op a.tree b.tree)) (leaves_in a.tree ++ leaves_in b.tree) (forms.compare op a.tree b.tree)
      (all_append (LeafLies at end) (leaves_in a.tree) (leaves_in b.tree) p.names q.names))

  ranged_placed : (n : Bool) (a b c : Condition) → Lies at end (reach (span_of a) (span_of c)) → Placed at end a → Placed at end b → Placed at end c → Placed at end
      (ranged n b c a)
  ranged_placed n a b c s p q r = node_placed (reach (span_of a) (span_of c)) (Between a.tree b.tree c.tree n) (a ∷ b ∷ c ∷ []) s (p, (q, (r, tt)))
      (along (leaves_in (Between a.tree b.tree c.tree n)) (leaves_in a.tree ++ (leaves_in b.tree ++ leaves_in c.tree)) (forms.between a.tree b.tree c.tree n)
      (all_append (LeafLies at end) (leaves_in a.tree) (leaves_in b.tree ++ leaves_in c.tree) p.names
      (all_append (LeafLies at end) (leaves_in b.tree) (leaves_in c.tree) q.names r.names)))

  listed_placed : (n : Bool) (a : Condition) (bs : List Condition) (closing : Span) → Lies at end (reach (span_of a) closing) → Placed at end a → Each Placed at end bs → Placed
      at end (listed n bs closing a)
  listed_placed n a bs closing s p q = node_placed (reach (span_of a) closing) (InList a.tree (map tree_of bs) n) (a ∷ bs) s (p, q)
      (along (leaves_in (InList a.tree (map tree_of bs) n)) (leaves_in a.tree ++ flat_map leaves_in (map tree_of bs)) (forms.in_list a.tree (map tree_of bs) n)
      (all_append (LeafLies at end) (leaves_in a.tree) (flat_map leaves_in (map tree_of bs)) p.names (names_of bs q)))

  tested_placed : (t : Test) (n : Bool) (word : Span) (a : Condition) → Lies at end (reach (span_of a) word) → Placed at end a → Placed at end (tested t n word a)
  tested_placed t n word a s p = node_placed (reach (span_of a) word) (Is a.tree t n) (a ∷ []) s (p, tt)
      (along (leaves_in (Is a.tree t n)) (leaves_in a.tree) (forms.test a.tree t n) p.names)

  pub not_placed : (word : Span) (a : Condition) → Lies at end (reach word (span_of a)) → Placed at end a → Placed at end (not_if (Some word) a)
  not_placed word a s p = node_placed (reach word (span_of a)) (Not a.tree) (a ∷ []) s (p, tt) (along (leaves_in (Not a.tree)) (leaves_in a.tree) (forms.negation a.tree) p.names)

  last_lies : (d : Condition) (ds : List Condition) → Placed at end d → Each Placed at end ds → Lies at end (last_span d ds)
  last_lies d [] p h = p.own
  last_lies d (e ∷ es) p h = last_lies e es h.0 h.1

-- what is made of a first one and of others behind it
module _ (over : List (Expr ColumnRef) → Expr ColumnRef) (equal : (es : List (Expr ColumnRef)) → leaves_in (over es) ≡ flat_map leaves_in es) where
  over_placed : (at middle end : ℕ) (c d : Condition) (ds : List Condition) → at ≤ middle → middle ≤ end → Placed at middle c → Each Placed middle end (d ∷ ds)
      → Placed at end (node (reach (span_of c) (last_span d ds)) (over (c.tree ∷ d.tree ∷ map tree_of ds)) (c ∷ d ∷ ds))
  over_placed at middle end c d ds l h p q =
      let all : Each Placed at end (c ∷ d ∷ ds) = (
        wider_placed at middle at end c (omega arith) h p,
        wider_each Placed wider_placed middle end at end (d ∷ ds) l (omega arith)
            q,
      ) in
      node_placed at end (reach (span_of c) (last_span d ds)) (over (c.tree ∷ d.tree ∷ map tree_of ds)) (c ∷ d ∷ ds)
      (reach_lies at middle middle end (span_of c) (last_span d ds) (omega arith) p.own (last_lies middle end d ds q.0 q.1)) all
      (along at end (leaves_in (over (c.tree ∷ d.tree ∷ map tree_of ds))) (flat_map leaves_in (c.tree ∷ d.tree ∷ map tree_of ds)) (equal (c.tree ∷ d.tree ∷ map tree_of ds))
      (names_of at end (c ∷ d ∷ ds) all))

all_placed : (at end : ℕ) (d : Condition × List Condition) → Then Placed (Each Placed) at end d → Placed at end (all_of d.0 d.1)
all_placed at end (c, []) h = wider_placed at h.middle at end c (omega arith) h.high h.first
all_placed at end (c, d ∷ ds) h = over_placed All forms.all at h.middle end c d ds h.low h.high h.first h.second

any_placed : (at end : ℕ) (d : Condition × List Condition) → Then Placed (Each Placed) at end d → Placed at end (any_of d.0 d.1)
any_placed at end (c, []) h = wider_placed at h.middle at end c (omega arith) h.high h.first
any_placed at end (c, d ∷ ds) h = over_placed AnyOf forms.any at h.middle end c d ds h.low h.high h.first h.second

-- ---- what is made of an operand, or of a name

abbrev Tailed : Held (Tail ColumnRef)
Tailed at end tail = (low : ℕ) (c : Condition) → low ≤ at → Placed low at c → Placed low end (tail c)

abbrev Flagged : Held (Bool → Tail ColumnRef)
Flagged at end f = (b : Bool) → Tailed at end (f b)

abbrev Behind : Held (Named → Condition)
Behind at end f = (low : ℕ) (w : Named) → low ≤ at → Lies low at w.span → Placed low end (f w)

abbrev pub NameLies : Held Named
NameLies at end n = Lies at end n.span

abbrev TokenLies : Held Token
TokenLies at end t = Lies at end t.span

abbrev WordLies : Held (Test × Span)
WordLies at end w = Lies at end w.1

unless_placed : (middle end : ℕ) (o : Option (Tail ColumnRef)) → middle ≤ end → IfGiven Tailed middle end o → (low : ℕ) (c : Condition) → low ≤ middle → Placed low middle c →
    Placed low end (unless_none o c)
unless_placed middle end None h t low c l p = wider_placed low middle low end c (omega arith) h p
unless_placed middle end (Some tail) h t low c l p = t low c l p

negated_placed : (at end : ℕ) (d : Option Span × Condition) → Then (IfGiven Lies) Placed at end d → Placed at end (not_if d.0 d.1)
negated_placed at end (None, c) h = wider_placed h.middle end at end c h.low (omega arith) h.second
negated_placed at end (Some word, c) h =
    not_placed at end word c (reach_lies at h.middle h.middle end word (span_of c) (omega arith) h.first h.second.own)
    (wider_placed h.middle end at end c h.low (omega arith) h.second)

-- ---- the productions

abbrev pub InsideHas : (k : Inside Nested) → Held (HeldInside k)
InsideHas Inside.condition = Placed
InsideHas Inside.operands = Each Placed
InsideHas Inside.members = Each Placed
InsideHas (Inside.own Nested.null_type) = Any
InsideHas (Inside.own Nested.length_part) = Any
InsideHas (Inside.own Nested.inner_select) = λ at end s. Lie at end (select_spans s)

-- two places, and what stands between them between two others
pub record Enclosed {V : Type 0} (P : Held V) (at end : ℕ) (d : Span × V × Span) : Type 0 where
  pub opening : Lies at end d.0
  pub inside : P at end d.1
  pub closing : Lies at end d.2
  pub whole : Lies at end (reach d.0 d.2)

wider_inside : (k : Inside Nested) → Widens (InsideHas k)
wider_inside Inside.condition = wider_placed
wider_inside Inside.operands = wider_each Placed wider_placed
wider_inside Inside.members = wider_each Placed wider_placed
wider_inside (Inside.own Nested.null_type) = λ at end low high v l h p. tt
wider_inside (Inside.own Nested.length_part) = λ at end low high v l h p. tt
wider_inside (Inside.own Nested.inner_select) = λ at end low high s l h p. wider_all at end low high (select_spans s) l h p

-- so is what stands between parentheses
pub record Inner (b : Parts) : Type 0 where
  pub told : (k : Inside Nested) (at end : ℕ) (d : (b k).Phrase) → AreInOrder at end ((b k).tokens d) → InsideHas k at end ((b k).value d)

module _ {b : Parts} where
  pub the_lies : (mark : Mark) → Tells b (the mark) Lies
  the_lies mark = one_tells (λ at end t h. h)

  pub name_lies : Tells b name NameLies
  name_lies = one_tells (λ at end t h. h)

  pub nest_tells : Inner b → (k : Inside Nested) → Tells b (nest place_of left_parenthesis right_parenthesis k) (Enclosed (InsideHas k))
  nest_tells inner k = record { holds = at_phrase } where
    at_phrase : (at end : ℕ) (d : (text b (nest place_of left_parenthesis right_parenthesis k)).Phrase) → AreInOrder at end
        ((text b (nest place_of left_parenthesis right_parenthesis k)).tokens d)
        → Enclosed (InsideHas k) at end ((text b (nest place_of left_parenthesis right_parenthesis k)).value d)
    at_phrase at end d (l, o, i) =
        let ts = (b k).tokens d.1.0 in
        let c = cut d.0.0.span.to end ts (d.1.1.0 ∷ []) i in
        let low : d.0.0.span.to ≤ c.0 = not_before d.0.0.span.to c.0 ts c.1 in
        let ordered : c.0 ≤ end = not_before c.0 end (d.1.1.0 ∷ []) c.2 in record {
          opening = (l, omega (arith, o), omega (arith, low, ordered));
          inside = wider_inside k d.0.0.span.to c.0 at end ((b k).value d.1.0) (omega (arith, l, o)) ordered (inner.told k d.0.0.span.to c.0 d.1.0 c.1);
          closing = (omega (arith, l, o, low, c.2.0), omega (arith, c.2.1), c.2.2);
          whole = (l, omega (arith, o, low, c.2.0, c.2.1), c.2.2);
        }

  -- one more, behind a word
  pub behind_word : {V : Type 0} {r : Production V} {P : Held V} (w : Mark) → Widens P → Tells b r P → Tells b (mapped (λ d. d.1) (seq (the w) r)) P
  behind_word w wide t = mapped_tells (seq_tells (the_lies w) t) (λ at end d h. wide h.middle end at end d.1 h.low (omega arith) h.second)

  -- one, and others that each stand behind a word
  pub list_tells : {V : Type 0} {r : Production V} {P : Held V} (w : Mark) → Widens P → Tells b r P → Tells b
      (mapped (λ d. d.0 ∷ d.1) (seq r (many (mapped (λ d. d.1) (seq (the w) r))))) (Each P)
  list_tells {V} {r} {P} w wide t = mapped_tells (seq_tells t (many_tells wide (behind_word w wide t))) (λ at end d h.
      (wide at h.middle at end d.0 (omega arith) h.high h.first, wider_each P wide h.middle end at end d.1 h.low (omega arith) h.second))

module _ {b : Parts} (inner : Inner b) where
  literals_placed : Tells b (g.literals ColumnRef Nested HeldNested) Placed
  unfolding g.literals
  literals_placed =
      either_tells (one_tells (λ at end t h. lone_placed at end t.span (Lit _) (forms.literal _) h))
      (either_tells (mapped_tells (seq_tells (the_lies m.Minus) (one_tells {P = TokenLies} (λ at end t h. h)))
      (λ at end d h. lone_placed at end (reach d.0 d.1.span) (Lit _) (forms.literal _) (reach_lies at h.middle h.middle end d.0 d.1.span (omega arith) h.first h.second)))
      (either_tells (one_tells (λ at end t h. lone_placed at end t.span (Lit _) (forms.literal _) h))
      (either_tells (mapped_tells (the_lies m.True) (λ at end s h. lone_placed at end s (Lit _) (forms.literal _) h))
      (mapped_tells (the_lies m.False) (λ at end s h. lone_placed at end s (Lit _) (forms.literal _) h)))))

  dotted_placed : Tells b dotted Behind
  unfolding g.dotted
  dotted_placed = mapped_tells (seq_tells (the_lies m.Period) name_lies) (λ at end d h low w l p.
      let l' : ColumnRef = record { alias = w; column = d.1 } in
      let alias : Lies low end w.span = wider low at low end w.span (omega arith) (omega (arith, h.low, h.high)) p in
      let column : Lies low end d.1.span = wider h.middle end low end d.1.span (omega (arith, l, h.low)) (omega arith) h.second in
      node_placed low end (reach w.span d.1.span) (Leaf l') [] (reach_lies low at h.middle end w.span d.1.span h.low p h.second) tt
      (along low end (leaves_in (Leaf l')) (l' ∷ []) (forms.leaf l') ((alias, column), tt)))

  date_placed : Tells b (g.date_text ColumnRef Nested HeldNested) Behind
  unfolding g.date_text
  date_placed = one_tells (λ at end t h low w l p. lone_placed low end (reach w.span t.span) (Lit _) (forms.literal _) (reach_lies low at at end w.span t.span (omega arith) p h))

  leaf_placed : Tells b leaf Placed
  unfolding g.leaf_or_date
  leaf_placed = either_tells (mapped_tells (seq_tells (one_tells {P = NameLies} (λ at end t h. h)) dotted_placed) (λ at end d h. h.second at d.0 h.low h.first))
      (mapped_tells (seq_tells (one_tells {P = NameLies} (λ at end t h. h)) (either_tells dotted_placed date_placed)) (λ at end d h. h.second at d.0 h.low h.first))

  cast_placed : Tells b cast Placed
  unfolding cast
  cast_placed = mapped_tells (seq_tells (the_lies m.Cast) (nest_tells inner (Inside.own Nested.null_type))) (λ at end d h.
      lone_placed at end (reach d.0 d.1.2) (Null d.1.1) (forms.null d.1.1) (reach_lies at h.middle h.middle end d.0 d.1.2 (omega arith) h.first h.second.closing))

  own_placed : Tells b own_operand Placed
  unfolding own_operand
  own_placed = either_tells leaf_placed cast_placed

  coalesce_placed : Tells b coalesce Placed
  unfolding g.coalesce
  coalesce_placed = mapped_tells (seq_tells (the_lies m.Coalesce) (nest_tells inner Inside.members)) (λ at end d h.
      let cs = d.1.1 in
      let all : Each Placed at end cs = wider_each Placed wider_placed h.middle end at end cs h.low (omega arith) h.second.inside in
      node_placed at end (reach d.0 d.1.2) (Coalesce (map tree_of cs)) cs (reach_lies at h.middle h.middle end d.0 d.1.2 (omega arith) h.first h.second.closing) all
      (along at end (leaves_in (Coalesce (map tree_of cs))) (flat_map leaves_in (map tree_of cs)) (forms.coalesce (map tree_of cs)) (names_of at end cs all)))

  parens_placed : Tells b parens Placed
  unfolding g.parens
  parens_placed = mapped_tells (nest_tells inner Inside.condition) (λ at end d h. enclosed_placed at end d.0 d.2 d.1 h.whole h.inside)

  pub operand_placed : Tells b operand Placed
  unfolding g.operand
  operand_placed = either_tells literals_placed (either_tells own_placed (either_tells coalesce_placed parens_placed))

  comparing_placed : Tells b (g.comparing ColumnRef Nested HeldNested own_operand) Tailed
  unfolding g.comparing
  comparing_placed = mapped_tells (seq_tells (any_tells {r = g.comparison ColumnRef Nested HeldNested}) operand_placed) (λ at end d h low c l p.
      compared_placed low end d.0 c d.1 (reach_lies low at h.middle end (span_of c) (span_of d.1) h.low p.own h.second.own)
      (wider_placed low at low end c (omega arith) (omega (arith, h.low, h.high)) p) (wider_placed h.middle end low end d.1 (omega (arith, l, h.low)) (omega arith) h.second))

  including_placed : Tells b including Flagged
  unfolding g.including
  including_placed =
      either_tells (mapped_tells (seq_tells (the_lies m.Between) (seq_tells operand_placed (seq_tells (the_lies m.And) operand_placed))) (λ at end d h b low c l p.
      let n = h.second in
      let o = n.second in
      ranged_placed low end b c d.1.0 d.1.1.1 (reach_lies low at o.middle end (span_of c) (span_of d.1.1.1) (omega (arith, h.low, n.low, o.low)) p.own o.second.own)
      (wider_placed low at low end c (omega arith) (omega (arith, h.low, h.high)) p) (wider_placed h.middle n.middle low end d.1.0 (omega (arith, l, h.low)) n.high n.first)
      (wider_placed o.middle end low end d.1.1.1 (omega (arith, l, h.low, n.low, o.low)) (omega arith) o.second)))
      (mapped_tells (seq_tells (the_lies m.In) (nest_tells inner Inside.operands)) (λ at end d h b low c l p.
      listed_placed low end b c d.1.1 d.1.2 (reach_lies low at h.middle end (span_of c) d.1.2 h.low p.own h.second.closing)
      (wider_placed low at low end c (omega arith) (omega (arith, h.low, h.high)) p)
      (wider_each Placed wider_placed h.middle end low end d.1.1 (omega (arith, l, h.low)) (omega arith) h.second.inside)))

  predicate_placed : Tells b predicate_tail Tailed
  unfolding g.predicate_tail
  predicate_placed = either_tells comparing_placed (either_tells (mapped_tells including_placed (λ at end f h. h false))
      (mapped_tells (seq_tells (the_lies m.Not) including_placed)
      (λ at end d h low c l p. h.second true low c (omega (arith, l, h.low)) (wider_placed low at low h.middle c (omega arith) h.low p))))

  word_lies : Tells b (g.truth_word ColumnRef Nested HeldNested) WordLies
  unfolding g.truth_word
  word_lies = either_tells (mapped_tells (the_lies m.True) (λ at end s h. h))
      (either_tells (mapped_tells (the_lies m.False) (λ at end s h. h)) (mapped_tells (the_lies m.Unknown) (λ at end s h. h)))

  truth_placed : Tells b (g.truth_test ColumnRef Nested HeldNested) Tailed
  unfolding g.truth_test
  truth_placed = mapped_tells (seq_tells (the_lies m.Is) (seq_tells (any_tells {r = g.negated ColumnRef Nested HeldNested}) word_lies)) (λ at end d h low c l p.
      let n = h.second in
      tested_placed low end d.1.1.0 d.1.0 d.1.1.1 c (reach_lies low at n.middle end (span_of c) d.1.1.1 (omega (arith, h.low, n.low)) p.own n.second)
      (wider_placed low at low end c (omega arith) (omega (arith, h.low, h.high)) p))

  after_is_placed : Tells b (g.after_is ColumnRef Nested HeldNested own_operand) Flagged
  unfolding g.after_is
  after_is_placed =
      either_tells (mapped_tells (seq_tells (the_lies m.Null) (opt_tells truth_placed)) (λ at end d h b low c l p.
      unless_placed h.middle end d.1 h.high h.second low (tested test.Null b d.0 c) (omega (arith, l, h.low))
      (tested_placed low h.middle test.Null b d.0 c (reach_lies low at at h.middle (span_of c) d.0 (omega arith) p.own h.first)
      (wider_placed low at low h.middle c (omega arith) h.low p))))
      (mapped_tells word_lies (λ at end d h b low c l p.
      tested_placed low end d.0 b d.1 c (reach_lies low at at end (span_of c) d.1 (omega arith) p.own h)
      (wider_placed low at low end c (omega arith) (omega (arith, h.0, h.1, h.2)) p)))

  test_tail_placed : Tells b test_tail Tailed
  unfolding g.test_tail
  test_tail_placed =
      either_tells (mapped_tells (seq_tells predicate_placed (opt_tells truth_placed))
      (λ at end d h low c l p. unless_placed h.middle end d.1 h.high h.second low (d.0 c) (omega (arith, l, h.low)) (h.first low c l p)))
      (mapped_tells (seq_tells (the_lies m.Is) (seq_tells (any_tells {r = g.negated ColumnRef Nested HeldNested}) after_is_placed)) (λ at end d h low c l p.
      let n = h.second in
      n.second d.1.0 low c (omega (arith, l, h.low, n.low)) (wider_placed low at low n.middle c (omega arith) (omega (arith, h.low, n.low)) p)))

  pub test_placed : Tells b test_rule Placed
  unfolding g.tests
  test_placed = mapped_tells (seq_tells operand_placed (opt_tells test_tail_placed)) (λ at end d h. unless_placed h.middle end d.1 h.high h.second at d.0 h.low h.first)

  pub negation_placed : Tells b negation Placed
  unfolding g.negation
  negation_placed = mapped_tells (seq_tells (opt_tells (the_lies m.Not)) test_placed) negated_placed

  conjunction_placed : Tells b conjunction Placed
  unfolding g.conjunction
  conjunction_placed = mapped_tells (seq_tells negation_placed (many_tells wider_placed (behind_word m.And wider_placed negation_placed))) all_placed

  pub condition_placed : Tells b condition Placed
  unfolding g.search_condition
  condition_placed = mapped_tells (seq_tells conjunction_placed (many_tells wider_placed (behind_word m.Or wider_placed conjunction_placed))) any_placed

  pub operands_placed : Tells b (list operand) (Each Placed)
  operands_placed = list_tells m.Comma wider_placed operand_placed

  pub members_placed : Tells b (two_or_more operand) (Each Placed)
  members_placed = mapped_tells (seq_tells operand_placed (behind_word m.Comma (wider_each Placed wider_placed) operands_placed)) (λ at end d h.
      (wider_placed at h.middle at end d.0 (omega arith) h.high h.first, wider_each Placed wider_placed h.middle end at end d.1 h.low (omega arith) h.second))
