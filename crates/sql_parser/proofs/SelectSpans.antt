-- The spans of an SQL text's tree lie in the text.
use Rattle.std.proofs.Common.{◌≡◌, sym, ap, subst, ◌∙◌, ℕ, zero, suc, ◌≤◌, Option, Some, None, List, [], ◌∷◌, ◌++◌, map, flat_map, arith}
use Rattle.std.specs.List.{AllByRecursion}
use Rattle.pgq_base.specs.declared.refusal.Span.{Span}
use Rattle.sql_lexer.specs.declared.token.Token.{Token}
use Rattle.sql_lexer.specs.Spans.{LiesIn}
use Rattle.sql_lexer.specs.Texts.{AreInOrder}
use Rattle.token_marks.specs.declared.mark.Mark.TheVariants as m
use Rattle.expr_tree.specs.Leaves.{leaves_in}
use Rattle.token_grammar.specs.Rules.{within, grammar}
use Rattle.token_reading.specs.Tokens.{class}
use Rattle.condition_grammar.specs.declared.spanned.Spanned.{Spanned}
use Rattle.condition_grammar.specs.Spans.{not_if, span_of}
use Rattle.condition_grammar.specs.Conditions.{Inside}
use Rattle.sql_algebra.specs.declared.text.ColumnRef.{ColumnRef}
use Rattle.sql_algebra.specs.declared.text.ColumnText.{ColumnText}
use Rattle.sql_algebra.specs.declared.text.ItemText.{ItemText}
use Rattle.sql_algebra.specs.declared.text.ConjunctText.{ConjunctText, ConjunctText-F, fold-roll-ConjunctText}
use Rattle.sql_algebra.specs.declared.text.ConjunctText.TheVariants as t
use Rattle.sql_algebra.specs.declared.text.ConjunctText.TheVariants.{Plain, NotExists}
use Rattle.sql_algebra.specs.declared.text.SelectText.{SelectText, out-SelectText, fold-roll-SelectText}
use Rattle.sql_algebra.specs.declared.text.SqlText.{SqlText}
use Rattle.sql_algebra.specs.Grammar.{Nested, inside, column, table, joined, next_chain, from_list, exists, after_not, conjunct, where_part, unless_none, select, sql}
use Rattle.sql_parser.specs.Spans.{leaf_spans, condition_spans, column_spans, item_spans, conjunct_step, select_step, all_spans, select_spans, conjunct_spans, text_spans}
use Rattle.sql_parser.specs.Spans.{SpansLieIn}
use Rattle.sql_parser.specs.Selects.{next_item}
use Rattle.sql_parser.specs.Outcomes.{SpellsSql}
use Rattle.sql_parser.proofs.Placed.{Parts, Lies, Lie, wider, wider_all, reach_lies, all_append, all_flat, all_to, Held, Tells, IfGiven, Each, Widens, wider_each, any_tells}
use Rattle.sql_parser.proofs.Placed.{mapped_tells, seq_tells, either_tells, opt_tells, many_tells}
use Rattle.sql_parser.proofs.ConditionSpans.{LeafLies, Placed, wider_placed, not_placed, InsideHas, Inner, the_lies, name_lies, nest_tells, test_placed, negation_placed}
use Rattle.sql_parser.proofs.ConditionSpans.{condition_placed, behind_word, list_tells, operands_placed, members_placed}

-- ---- the lists of spans

leaves_lie : (at end : ℕ) (ls : List ColumnRef) → AllByRecursion (LeafLies at end) ls → Lie at end (flat_map leaf_spans ls)
leaves_lie at end [] h = tt
leaves_lie at end (l ∷ ls) h = (h.0.0, (h.0.1, leaves_lie at end ls h.1))

condition_lies : (at end : ℕ) (c : Spanned ColumnRef) → Placed at end c → Lie at end (condition_spans c)
condition_lies at end c p = all_append (Lies at end) c.spans (flat_map leaf_spans (leaves_in c.tree)) p.nodes (leaves_lie at end (leaves_in c.tree) p.names)

members_lie : (at end : ℕ) (cs : List (Spanned ColumnRef)) → Each Placed at end cs → Lie at end (flat_map condition_spans cs)
members_lie at end [] h = tt
members_lie at end (c ∷ cs) h = all_append (Lies at end) (condition_spans c) (flat_map condition_spans cs) (condition_lies at end c h.0) (members_lie at end cs h.1)

select_spans_are : (s : SelectText) → select_spans s ≡ select_step (record { word = s.word; columns = s.columns; from = s.from; conjuncts = map conjunct_spans s.conjuncts })
select_spans_are s = fold-roll-SelectText (List Span) (List Span) conjunct_step select_step (out-SelectText s)

plain_spans : (c : Spanned ColumnRef) → conjunct_spans (Plain c) ≡ condition_spans c
plain_spans c = ap conjunct_spans (sym (t.rolls-Plain c)) ∙ fold-roll-ConjunctText (List Span) (List Span) conjunct_step select_step (ConjunctText-F.Plain c)

inner_spans : (s : SelectText) → conjunct_spans (NotExists s) ≡ select_spans s
inner_spans s = ap conjunct_spans (sym (t.rolls-NotExists s)) ∙ fold-roll-ConjunctText (List Span) (List Span) conjunct_step select_step (ConjunctText-F.NotExists s)

abbrev ColumnLies : Held ColumnText
ColumnLies at end c = Lie at end (column_spans c)

abbrev ItemLies : Held ItemText
ItemLies at end i = Lie at end (item_spans i)

abbrev ConjunctLies : Held ConjunctText
ConjunctLies at end c = Lie at end (conjunct_spans c)

abbrev SelectLies : Held SelectText
SelectLies at end s = Lie at end (select_spans s)

wider_column : Widens ColumnLies
wider_column at end low high c l h p = wider_all at end low high (column_spans c) l h p

wider_item : Widens ItemLies
wider_item at end low high i l h p = wider_all at end low high (item_spans i) l h p

wider_conjunct : Widens ConjunctLies
wider_conjunct at end low high c l h p = wider_all at end low high (conjunct_spans c) l h p

wider_select : Widens SelectLies
wider_select at end low high s l h p = wider_all at end low high (select_spans s) l h p

plain_lies : (at end : ℕ) (c : Spanned ColumnRef) → Placed at end c → ConjunctLies at end (Plain c)
plain_lies at end c p = subst (Lie at end) (sym (plain_spans c)) (condition_lies at end c p)

inner_lies : (at end : ℕ) (s : SelectText) → SelectLies at end s → ConjunctLies at end (NotExists s)
inner_lies at end s p = subst (Lie at end) (sym (inner_spans s)) p

all_conjuncts : (at end : ℕ) (cs : List ConjunctText) → Each ConjunctLies at end cs → Lie at end (all_spans (map conjunct_spans cs))
all_conjuncts at end [] h = tt
all_conjuncts at end (c ∷ cs) h = all_append (Lies at end) (conjunct_spans c) (all_spans (map conjunct_spans cs)) h.0 (all_conjuncts at end cs h.1)

negated_at : (low at end : ℕ) (word : Span) (c : Spanned ColumnRef) → low ≤ at → at ≤ end → Lies low at word → Placed at end c → Placed low end (not_if (Some word) c)
negated_at low at end word c l k p h = not_placed low end word c (reach_lies low at at end word (span_of c) (omega arith) p h.own) (wider_placed at end low end c l (omega arith) h)

-- what follows NOT
abbrev BehindNot : Held (Span → ConjunctText)
BehindNot at end f = (low : ℕ) (word : Span) → low ≤ at → Lies low at word → ConjunctLies low end (f word)

module _ {b : Parts} (inner : Inner b) where
  column_lies : Tells b column ColumnLies
  unfolding column
  column_lies = mapped_tells (seq_tells (condition_placed inner) (seq_tells (the_lies m.As) name_lies)) (λ at end d h.
      let n = h.second in (
        wider n.middle end at end d.1.1.span (omega (arith, h.low, n.low)) (omega arith) n.second,
        condition_lies at end d.0 (wider_placed at h.middle at end d.0 (omega arith) h.high h.first),
      ))

  table_lies : Tells b table ItemLies
  unfolding table
  table_lies = mapped_tells (seq_tells name_lies (seq_tells (the_lies m.As) name_lies)) (λ at end d h.
      let n = h.second in
      (wider at h.middle at end d.0.span (omega arith) h.high h.first, (wider n.middle end at end d.1.1.span (omega (arith, h.low, n.low)) (omega arith) n.second, tt)))

  joined_lies : Tells b joined ItemLies
  unfolding joined
  joined_lies = mapped_tells (seq_tells (the_lies m.Join) (seq_tells table_lies (seq_tells (the_lies m.On) (list_tells m.And wider_placed (negation_placed inner))))) (λ at end d h.
      let n = h.second in
      let o = n.second in
      let own : Lie at end (item_spans d.1.0) = wider_all h.middle n.middle at end (item_spans d.1.0) h.low n.high n.first in
      (own.0, (own.1.0, members_lie at end d.1.1.1 (wider_each Placed wider_placed o.middle end at end d.1.1.1 (omega (arith, h.low, n.low, o.low)) (omega arith) o.second))))

  next_lies : Tells b next_item ItemLies
  unfolding next_chain
  next_lies = either_tells joined_lies (behind_word m.Comma wider_item table_lies)

  from_lies : Tells b from_list (Each ItemLies)
  unfolding from_list
  from_lies = mapped_tells (seq_tells table_lies (many_tells wider_item next_lies)) (λ at end d h.
      (wider_item at h.middle at end d.0 (omega arith) h.high h.first, wider_each ItemLies wider_item h.middle end at end d.1 h.low (omega arith) h.second))

  exists_lies : Tells b exists SelectLies
  unfolding exists
  exists_lies = mapped_tells (seq_tells (the_lies m.Exists) (nest_tells inner (Inside.own Nested.inner_select))) (λ at end d h.
      wider_select h.middle end at end d.1.1 h.low (omega arith) h.second.inside)

  after_not_lies : Tells b after_not BehindNot
  unfolding after_not
  after_not_lies = either_tells (mapped_tells exists_lies (λ at end s h low word l p. inner_lies low end s (wider_select at end low end s l (omega arith) h)))
      (mapped_tells (test_placed inner) (λ at end c h low word l p. plain_lies low end (not_if (Some word) c)
      (negated_at low at end word c l (omega (arith, h.own.0, h.own.1, h.own.2)) p h)))

  conjunct_lies : Tells b conjunct ConjunctLies
  unfolding conjunct
  conjunct_lies = either_tells (mapped_tells (seq_tells (the_lies m.Not) after_not_lies) (λ at end d h. h.second at d.0 h.low h.first))
      (mapped_tells (test_placed inner) plain_lies)

  given_conjuncts : (at end : ℕ) (o : Option (List ConjunctText)) → IfGiven (Each ConjunctLies) at end o → Each ConjunctLies at end (unless_none o)
  given_conjuncts at end None h = tt
  given_conjuncts at end (Some all) h = h

  where_lies : Tells b where_part (Each ConjunctLies)
  unfolding where_part
  where_lies = mapped_tells (opt_tells (behind_word m.Where (wider_each ConjunctLies wider_conjunct) (list_tells m.And wider_conjunct conjunct_lies))) given_conjuncts

  pub select_lies : Tells b select SelectLies
  unfolding select
  select_lies = mapped_tells (seq_tells (the_lies m.Select) (seq_tells (list_tells m.Comma wider_column column_lies)
      (seq_tells (the_lies m.From) (seq_tells from_lies where_lies)))) (λ at end d h.
      let n = h.second in
      let o = n.second in
      let q = o.second in
      let columns = d.1.0 in
      let items = d.1.1.1.0 in
      let all = d.1.1.1.1 in
      let below : at ≤ o.middle = omega (arith, h.low, n.low, o.low) in
      let s : SelectText = record { word = d.0; columns = columns; from = items; conjuncts = all } in
      subst (Lie at end) (sym (select_spans_are s)) (
        wider at h.middle at end d.0 (omega arith) h.high h.first,
        all_append (Lies at end) (flat_map column_spans columns) (flat_map item_spans items ++ all_spans (map conjunct_spans all))
            (all_flat (Lies at end) column_spans columns (wider_each ColumnLies wider_column h.middle n.middle at end columns h.low n.high n.first))
            (all_append (Lies at end) (flat_map item_spans items) (all_spans (map conjunct_spans all))
            (all_flat (Lies at end) item_spans items (wider_each ItemLies wider_item o.middle q.middle at end items below q.high q.first))
            (all_conjuncts at end all (wider_each ConjunctLies wider_conjunct q.middle end at end all (omega (arith, below, q.low)) (omega arith) q.second))),
      ))

  inside_tells : (k : Inside Nested) → Tells b (inside k) (InsideHas k)
  inside_tells Inside.condition = condition_placed inner
  inside_tells Inside.operands = operands_placed inner
  inside_tells Inside.members = members_placed inner
  inside_tells (Inside.own Nested.null_type) = any_tells
  inside_tells (Inside.own Nested.length_part) = any_tells
  inside_tells (Inside.own Nested.inner_select) = select_lies

-- however many parentheses may be open
level : (n : ℕ) → Inner (within class inside n)
unfolding within
level zero = record { told = λ k at end d i. absurd d }
level (suc n) = record { told = λ k at end d i. (inside_tells (level n) k).holds at end d i }

-- a text's tree lies in the text
text_lies : {b : Parts} → Inner b → Tells b sql (λ at end s. Lie at end (text_spans s))
unfolding sql
text_lies inner =
    mapped_tells (seq_tells (seq_tells (select_lies inner) (many_tells wider_select
    (mapped_tells (seq_tells (the_lies m.Union) (seq_tells (the_lies m.All) (select_lies inner))) (λ at end d h.
    wider_select h.second.middle end at end d.1.1 (omega (arith, h.low, h.second.low)) (omega arith) h.second.second)))) (opt_tells (the_lies m.Semicolon))) (λ at end d h.
    let p = h.first in
    all_flat (Lies at end) select_spans (d.0.0 ∷ d.0.1) (
      wider_select at p.middle at end d.0.0 (omega arith) (omega (arith, p.high, h.high)) p.first,
      wider_each SelectLies
          wider_select p.middle h.middle at end d.0.1 p.low h.high p.second,
    ))

pub spans_lie : (end : ℕ) (ts : List Token) (s : SqlText) → AreInOrder 0 end ts → SpellsSql ts s → SpansLieIn end s
spans_lie end ts s i (n, d) =
    let v = (grammar class inside n sql).value d.0 in
    let h : Lie 0 end (text_spans v) = (text_lies (level n)).holds 0 end d.0 (subst (AreInOrder 0 end) d.1 i) in
    subst (SpansLieIn end) d.2 (all_to (Lies 0 end) (LiesIn end) (text_spans v) (λ x q. (q.1, q.2)) h)
