-- The spans of labels, edges and patterns stand between the places of their tokens.
use Rattle.std.proofs.Common.{◌≡◌, sym, ap, subst, ◌∙◌, ℕ, ◌≤◌, Bool, true, false, Option, Some, None, List, [], ◌∷◌, ◌++◌, flat_map, arith}
use Rattle.pgq_base.specs.declared.refusal.Span.{Span}
use Rattle.graph_ast.specs.declared.schema.Named.{Named}
use Rattle.graph_ast.specs.declared.query.LabelExpr.{LabelExpr, LabelExpr-F, roll-LabelExpr, map-LabelExpr, fold-roll-LabelExpr}
use Rattle.graph_ast.specs.declared.query.LabelExpr.TheVariants as label
use Rattle.graph_ast.specs.declared.query.Direction.{Direction}
use Rattle.graph_ast.specs.declared.query.Direction.TheVariants.{Undirected}
use Rattle.graph_ast.specs.declared.query.Mode.{Mode}
use Rattle.graph_ast.specs.declared.query.Mode.TheVariants.{Walk, Trail, Acyclic, Simple}
use Rattle.token_grammar.specs.Rules.{within}
use Rattle.token_marks.specs.declared.mark.Mark.{Mark}
use Rattle.token_marks.specs.declared.mark.Mark.TheVariants as m
use Rattle.token_reading.specs.Tokens.{class}
use Rattle.condition_grammar.specs.Conditions.{Inside}
use Rattle.pattern_parser.specs.declared.pieces.Content.{Content}
use Rattle.pattern_parser.specs.declared.pieces.EdgePattern.{EdgePattern}
use Rattle.pattern_parser.specs.declared.pieces.EdgeEnd.{EdgeEnd}
use Rattle.pattern_parser.specs.Insides.{Own, Production, the, name, after}
use Rattle.pattern_parser.specs.Patterns.{and_of, or_of, not_label, label_primary, label_not, label_and, label_union, mode_for, mode, mode_part, quantifier, no_content}
use Rattle.pattern_parser.specs.Patterns.{in_square, edge_end, wave_end, left_edge, edge, edge_of, direction, pointed, dashed, waved}
use Rattle.pattern_parser.specs.Queries.{inside}
use Rattle.graph_ast.specs.QuerySpans.{if_given, of_name, of_mode, of_quantifier, of_label, label_step, of_filler, of_condition}
use Rattle.pattern_parser.proofs.Ranges.{In, AllIn, Holds, IfGiven, Given, Gives, Bracketed, any_gives, one_gives, mapped_gives, seq_gives, either_gives, opt_gives, many_gives}
use Rattle.pattern_parser.proofs.Ranges.{nest_gives}
use Rattle.pattern_parser.proofs.SpanLists.{wider, reaches, all_wider, all_append, Spans, left_all, right_all, chain_all, joined_map}

-- ---- names, words, and what stands behind a word

module _ (n : ℕ) where
  pub the_in : (mark : Mark) → Gives n (the mark) In
  the_in mark = one_gives n (λ t at end h. h)

  pub name_in : Gives n name (Spans of_name)
  name_in = one_gives n (λ t at end h. (h, tt))

  pub after_in : {U V : Type 0} {x : Production U} {y : Production V} (f : V → List Span) → Gives n y (Spans f) → Gives n (after x y) (Spans f)
  after_in f g = mapped_gives n (seq_gives n (any_gives n) g) (λ at end le a h. all_wider h.lower (omega arith) (f a.1) h.second)

-- what stands between brackets
pub inside_all : {V : Type 0} (f : V → List Span) (at end : ℕ) (d : Span × V × Span) → Bracketed (Spans f) at end d → AllIn at end (f d.1)
inside_all f at end d h =
    all_wider (omega (arith, h.opening.from, h.opening.ordered, h.opening.to)) (omega (arith, h.closing.from, h.closing.ordered, h.closing.to)) (f d.1) h.held

-- ---- labels

label_at : (x : LabelExpr-F LabelExpr) (l : LabelExpr) → roll-LabelExpr x ≡ l → of_label l ≡ label_step (map-LabelExpr LabelExpr (List Span) of_label x)
label_at x l is = ap of_label (sym is) ∙ fold-roll-LabelExpr (List Span) label_step x

lone_in : (at end : ℕ) (name : Named) → AllIn at end (of_name name) → AllIn at end (of_label (label.Label name))
lone_in at end name h = subst (AllIn at end) (sym (label_at (LabelExpr-F.Label name) (label.Label name) (label.rolls-Label name))) h

any_in : (at end : ℕ) → AllIn at end (of_label label.AnyLabel)
any_in at end = subst (AllIn at end) (sym (label_at LabelExpr-F.AnyLabel label.AnyLabel label.rolls-AnyLabel)) tt

not_in : (at end : ℕ) (o : Option Span) (l : LabelExpr) → AllIn at end (of_label l) → AllIn at end (of_label (not_label o l))
not_in at end None l h = h
not_in at end (Some s) l h = subst (AllIn at end) (sym (label_at (LabelExpr-F.Not l) (label.Not l) (label.rolls-Not l))) h

and_in : (at end : ℕ) (l : LabelExpr) (ks : List LabelExpr) → AllIn at end (of_label l) → AllIn at end (flat_map of_label ks) → AllIn at end (of_label (and_of l ks))
and_in at end l [] h i = h
and_in at end l (k ∷ ks) h i = subst (AllIn at end)
    (joined_map of_label (l ∷ k ∷ ks) ∙ sym (label_at (LabelExpr-F.And (l ∷ k ∷ ks)) (label.And (l ∷ k ∷ ks)) (label.rolls-And (l ∷ k ∷ ks))))
    (all_append at end (of_label l) (flat_map of_label (k ∷ ks)) h i)

or_in : (at end : ℕ) (l : LabelExpr) (ks : List LabelExpr) → AllIn at end (of_label l) → AllIn at end (flat_map of_label ks) → AllIn at end (of_label (or_of l ks))
or_in at end l [] h i = h
or_in at end l (k ∷ ks) h i = subst (AllIn at end)
    (joined_map of_label (l ∷ k ∷ ks) ∙ sym (label_at (LabelExpr-F.Or (l ∷ k ∷ ks)) (label.Or (l ∷ k ∷ ks)) (label.rolls-Or (l ∷ k ∷ ks))))
    (all_append at end (of_label l) (flat_map of_label (k ∷ ks)) h i)

module _ (n : ℕ) (inner : Given (within class inside n (Inside.own Own.label_group)) (Spans of_label)) where
  label_primary_in : Gives n label_primary (Spans of_label)
  unfolding label_primary
  label_primary_in = either_gives n (mapped_gives n (name_in n) (λ at end le a h. lone_in at end a h))
      (either_gives n (mapped_gives n (any_gives n) (λ at end le a h. any_in at end)) (mapped_gives n (nest_gives n inner) (λ at end le d h. inside_all of_label at end d h)))

  label_not_in : Gives n label_not (Spans of_label)
  unfolding label_not
  label_not_in = mapped_gives n (seq_gives n (any_gives n) label_primary_in) (λ at end le d h. not_in at end d.0 d.1 (right_all of_label (λ a b i. i) h))

  label_and_in : Gives n label_and (Spans of_label)
  unfolding label_and
  label_and_in = mapped_gives n (seq_gives n label_not_in (many_gives n (after_in n of_label label_not_in)))
      (λ at end le d h. and_in at end d.0 d.1 (left_all of_label (λ a b i. i) h) (right_all (flat_map of_label) (λ a b i. chain_all of_label a b d.1 i) h))

  pub label_union_in : Gives n label_union (Spans of_label)
  unfolding label_union
  label_union_in = mapped_gives n (seq_gives n label_and_in (many_gives n (after_in n of_label label_and_in)))
      (λ at end le d h. or_in at end d.0 d.1 (left_all of_label (λ a b i. i) h) (right_all (flat_map of_label) (λ a b i. chain_all of_label a b d.1 i) h))

-- ---- modes and quantifiers

module _ (n : ℕ) where
  mode_word_in : (mark : Mark) (word : Mode) → Gives n (mode_for mark word) (Spans of_mode)
  mode_word_in mark word = mapped_gives n (the_in n mark) (λ at end le s h. (h, tt))

  pub mode_in : Gives n mode (Spans of_mode)
  unfolding mode
  mode_in = either_gives n (mode_word_in m.Walk Walk) (either_gives n (mode_word_in m.Trail Trail) (either_gives n (mode_word_in m.Acyclic Acyclic) (mode_word_in m.Simple Simple)))

  pub mode_part_in : Gives n mode_part (Spans of_mode)
  unfolding mode_part
  mode_part_in = mapped_gives n (seq_gives n mode_in (any_gives n)) (λ at end le d h. left_all of_mode (λ a b i. i) h)

  pub quantifier_in : Gives n quantifier (Spans of_quantifier)
  unfolding quantifier
  quantifier_in = either_gives n (mapped_gives n (the_in n m.Asterisk) (λ at end le s h. (h, tt))) (either_gives n (mapped_gives n (the_in n m.Plus) (λ at end le s h. (h, tt)))
      (either_gives n (mapped_gives n (the_in n m.QuestionMark) (λ at end le s h. (h, tt)))
      (mapped_gives n (seq_gives n (the_in n m.LeftBrace) (seq_gives n (any_gives n) (the_in n m.RightBrace)))
      (λ at end le d h. (reaches h.first (wider h.second.lower (omega arith) h.second.second), tt)))))

-- ---- edges

abbrev pub of_content : Content → List Span
of_content c = if_given of_name c.variable ++ (if_given of_label c.label ++ if_given of_condition c.condition)

record EndIn (at end : ℕ) (e : EdgeEnd) : Type 0 where
  content : AllIn at end (of_content e.content)
  lower : at ≤ e.to
  upper : e.to ≤ end

abbrev pub EdgeIn : Holds EdgePattern
EdgeIn at end e = AllIn at end (of_filler e.filler) × In at end e.filler.span

-- of an edge that begins before
abbrev LeftIn : Holds (Span → EdgePattern)
LeftIn at end f = (start : ℕ) (first : Span) → In start at first → EdgeIn start end (f first)

edge_of_in : (at end : ℕ) (d : Direction) (c : Content) (from to : ℕ) → at ≤ from → from ≤ to → to ≤ end → AllIn at end (of_content c) → EdgeIn at end (edge_of d c from to)
edge_of_in at end d c from to l o u h =
    let own : In at end (record { from = from; to = to }) = record { from = l; ordered = o; to = u } in
    ((own, h), own)

-- behind the first token and the line, which may be one
dashed_in : (at middle end : ℕ) (left : Bool) (first line : Span) (e : Option EdgeEnd) → at ≤ middle → middle ≤ end → at ≤ first.from → first.from ≤ line.to →
    line.to ≤ middle → IfGiven EndIn middle end e →
    EdgeIn at end (dashed left first line e)
dashed_in at middle end left first line None l u f o t h = edge_of_in at end (direction left false) no_content first.from line.to f o (omega (arith, t, u)) tt
dashed_in at middle end left first line (Some e) l u f o t h = edge_of_in at end (direction left e.points) e.content first.from e.to f
    (omega (arith, o, t, h.lower)) h.upper (all_wider l (omega arith) (of_content e.content) h.content)

waved_in : (at middle end : ℕ) (first line : Span) (e : Option EdgeEnd) → at ≤ middle → middle ≤ end → at ≤ first.from → first.from ≤ line.to → line.to ≤ middle →
    IfGiven EndIn middle end e →
    EdgeIn at end (waved first line e)
waved_in at middle end first line None l u f o t h = edge_of_in at end Undirected no_content first.from line.to f o (omega (arith, t, u)) tt
waved_in at middle end first line (Some e) l u f o t h = edge_of_in at end Undirected e.content first.from e.to f (omega (arith, o, t, h.lower)) h.upper
    (all_wider l (omega arith) (of_content e.content) h.content)

-- behind the content of an edge
pointed_in : (at middle end : ℕ) (c : Content) (last : Span) (arrow : Option Span) → at ≤ middle → middle ≤ end → AllIn at middle (of_content c) → In at middle last →
    IfGiven In middle end arrow → EndIn at end (pointed c last arrow)
pointed_in at middle end c last None l u h i j = record {
  content = all_wider (omega arith) u (of_content c) h;
  lower = omega (arith, i.from, i.ordered);
  upper = omega
      (arith, i.to, u);
}
pointed_in at middle end c last (Some arrow) l u h i j = record { content = all_wider (omega arith) u (of_content c) h; lower = omega (arith, l, j.from, j.ordered); upper = j.to }

module _ (n : ℕ) (inner : Given (within class inside n (Inside.own Own.filler)) (Spans of_content)) where
  in_square_in : Gives n in_square (Spans of_content)
  in_square_in = mapped_gives n (nest_gives n inner) (λ at end le d h. inside_all of_content at end d h)

  edge_end_in : (line : Mark) → Gives n (edge_end line) EndIn
  unfolding edge_end
  edge_end_in line = either_gives n (mapped_gives n (the_in n m.Greater) (λ at end le s h. record { content = tt; lower = omega (arith, h.from, h.ordered); upper = h.to }))
      (mapped_gives n (seq_gives n in_square_in (seq_gives n (the_in n line) (opt_gives n (the_in n m.Greater))))
      (λ at end le d h. pointed_in at h.second.middle end d.0 d.1.0 d.1.1 (omega (arith, h.lower, h.second.lower)) h.second.upper
      (all_wider (omega arith) h.second.lower (of_content d.0) h.first) (wider h.lower (omega arith) h.second.first) h.second.second))

  wave_end_in : Gives n wave_end EndIn
  unfolding wave_end
  wave_end_in = mapped_gives n (seq_gives n in_square_in (the_in n m.Tilde))
      (λ at end le d h. record { content = left_all of_content (λ a b i. i) h; lower = omega (arith, h.lower, h.second.from, h.second.ordered); upper = h.second.to })

  left_edge_in : Gives n left_edge LeftIn
  unfolding left_edge
  left_edge_in = either_gives n
      (mapped_gives n (seq_gives n (the_in n m.Minus) (opt_gives n (edge_end_in m.Minus)))
      (λ at end le d h start first i. dashed_in start h.middle end true first d.0 d.1 (omega (arith, h.lower, i.from, i.ordered, i.to)) h.upper i.from
      (omega (arith, i.ordered, i.to, h.first.from, h.first.ordered)) h.first.to h.second))
      (mapped_gives n (seq_gives n (the_in n m.Tilde) (opt_gives n wave_end_in))
      (λ at end le d h start first i. waved_in start h.middle end first d.0 d.1 (omega (arith, h.lower, i.from, i.ordered, i.to)) h.upper i.from
      (omega (arith, i.ordered, i.to, h.first.from, h.first.ordered)) h.first.to h.second))

  pub edge_in : Gives n edge EdgeIn
  unfolding edge
  edge_in = either_gives n
      (mapped_gives n (seq_gives n (the_in n m.Minus) (opt_gives n (edge_end_in m.Minus)))
      (λ at end le d h. dashed_in at h.middle end false d.0 d.0 d.1 h.lower h.upper h.first.from h.first.ordered h.first.to h.second))
      (either_gives n (mapped_gives n (seq_gives n (the_in n m.Tilde) (opt_gives n (edge_end_in m.Tilde)))
      (λ at end le d h. waved_in at h.middle end d.0 d.0 d.1 h.lower h.upper h.first.from h.first.ordered h.first.to h.second))
      (mapped_gives n (seq_gives n (the_in n m.Less) left_edge_in) (λ at end le d h. h.second at d.0 h.first)))
