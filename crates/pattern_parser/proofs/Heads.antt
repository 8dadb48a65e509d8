-- Tests by what they begin with.
use Rattle.std.proofs.Common.{◌≡◌, refl, ap, ◌∙◌, ℕ, Bool, true, false, List}
use Rattle.sql_lexer.specs.declared.token.Token.{Token}
use Rattle.token_marks.specs.declared.mark.Mark.TheVariants as m
use Rattle.token_grammar.specs.Rules.{on}
use Rattle.token_grammar.specs.Rules.Rule.{one, mapped, seq, either, opt}
use Rattle.token_grammar.specs.Checks.{first}
use Rattle.token_grammar.specs.Parser.{choose, heads}
use Rattle.token_grammar.proofs.Choices.{heads-apart}
use Rattle.token_grammar.proofs.Tests.{apart_right}
use Rattle.token_reading.specs.Tokens.{class, class_count, is_mark, named}
use Rattle.token_reading.proofs.Samples.{below}
use Rattle.condition_grammar.specs.Conditions as g
use Rattle.graph_ast.specs.declared.query.PropertyRef.{PropertyRef}
use Rattle.condition_grammar.specs.Spans.{unless_none}
use Rattle.pattern_parser.specs.Insides.{Own, HeldOwn, Production}
use Rattle.pattern_parser.specs.Tests.{Tree, put_name, own_operand, dotted, date_text, test_tail, truth_test, with_tail, relation, after_name, after_group_word, unnamed_operand}
use Rattle.pattern_parser.specs.Tests.{test_from}
use Rattle.pattern_parser.specs.Conditions.{operand, date_test, group_word_test}
use Rattle.pattern_parser.specs.Reading.{reads, at_depth}

abbrev pub literals : Production Tree
literals = g.literals PropertyRef Own HeldOwn

-- an operand, with what it has of its own first
module _ (n : ℕ) (ts : List Token) where
  no_literal : heads (on class (first own_operand)) ts ≡ true → heads (on class (first literals)) ts ≡ false
  unfolding g.literals g.leaf_or_date
  no_literal h = heads-apart (on class (first own_operand)) (on class (first literals))
      (λ x e. apart_right class_count (first literals) (first own_operand) refl (class x) (below x) e) ts h

  pub own_read : heads (on class (first own_operand)) ts ≡ true → reads (at_depth n) operand ts ≡ reads (at_depth n) own_operand ts
  unfolding g.operand
  own_read h =
      ap (λ b. choose b (reads (at_depth n) literals ts) (choose (heads (on class (first own_operand)) ts) (reads (at_depth n) own_operand ts)
      (reads (at_depth n) (either (g.coalesce PropertyRef Own HeldOwn) (g.parens PropertyRef Own HeldOwn)) ts))) (no_literal h)
      ∙ ap (λ b. choose b (reads (at_depth n) own_operand ts) (reads (at_depth n) (either (g.coalesce PropertyRef Own HeldOwn) (g.parens PropertyRef Own HeldOwn)) ts)) h

  pub unnamed_read : heads (on class (first own_operand)) ts ≡ false → reads (at_depth n) operand ts ≡ reads (at_depth n) unnamed_operand ts
  unfolding g.operand unnamed_operand
  unnamed_read h =
      ap (λ b. choose (heads (on class (first literals)) ts) (reads (at_depth n) literals ts)
      (choose b (reads (at_depth n) own_operand ts) (reads (at_depth n) (either (g.coalesce PropertyRef Own HeldOwn) (g.parens PropertyRef Own HeldOwn)) ts))) h

  -- what follows a name
  pub dotted_read : heads (is_mark m.Period) ts ≡ true → reads (at_depth n) after_name ts ≡ reads (at_depth n) (with_tail test_tail dotted) ts
  unfolding after_name g.dotted
  dotted_read h = ap (λ b. choose b (reads (at_depth n) (with_tail test_tail dotted) ts) (reads (at_depth n) (with_tail truth_test relation) ts)) h

  -- DATE, and SAME or ALL_DIFFERENT, each as a name or with a meaning of its own
  pub date_or_name : heads (on class (first after_name)) ts ≡ true → reads (at_depth n) (either after_name (with_tail test_tail date_text)) ts ≡ reads (at_depth n) after_name ts
  date_or_name h = ap (λ b. choose b (reads (at_depth n) after_name ts) (reads (at_depth n) (with_tail test_tail date_text) ts)) h

  pub date_alone : heads (on class (first after_name)) ts ≡ false → reads (at_depth n) (either after_name (with_tail test_tail date_text)) ts
      ≡ reads (at_depth n) (with_tail test_tail date_text) ts
  date_alone h = ap (λ b. choose b (reads (at_depth n) after_name ts) (reads (at_depth n) (with_tail test_tail date_text) ts)) h

  pub group_or_name : heads (on class (first after_name)) ts ≡ true → reads (at_depth n) (either after_name after_group_word) ts ≡ reads (at_depth n) after_name ts
  group_or_name h = ap (λ b. choose b (reads (at_depth n) after_name ts) (reads (at_depth n) after_group_word ts)) h

  pub group_alone : heads (on class (first after_name)) ts ≡ false → reads (at_depth n) (either after_name after_group_word) ts ≡ reads (at_depth n) after_group_word ts
  group_alone h = ap (λ b. choose b (reads (at_depth n) after_name ts) (reads (at_depth n) after_group_word ts)) h

abbrev pub unnamed_test : Production Tree
unnamed_test = mapped (λ d. unless_none d.1 d.0) (seq unnamed_operand (opt test_tail))

abbrev pub plain_test : (ℕ → Bool) → Production Tree
plain_test plain = mapped put_name (seq (one plain named) after_name)

abbrev pub word_test : Production Tree
word_test = either date_test group_word_test

-- a test, where the plain names are those for which the test says so
module _ (plain : ℕ → Bool) (n : ℕ) (ts : List Token) where
  abbrev named_test : Production Tree
  named_test = either (plain_test plain) word_test

  pub by_unnamed : heads (on class (first unnamed_operand)) ts ≡ true → reads (at_depth n) (test_from plain) ts ≡ reads (at_depth n) unnamed_test ts
  unfolding test_from unnamed_operand g.literals g.coalesce g.parens
  by_unnamed h = ap (λ b. choose b (reads (at_depth n) unnamed_test ts) (reads (at_depth n) named_test ts)) h

  no_unnamed : heads (on class (first unnamed_operand)) ts ≡ false → reads (at_depth n) (test_from plain) ts ≡ reads (at_depth n) named_test ts
  unfolding test_from unnamed_operand g.literals g.coalesce g.parens
  no_unnamed h = ap (λ b. choose b (reads (at_depth n) unnamed_test ts) (reads (at_depth n) named_test ts)) h

  pub by_plain : heads (on class (first unnamed_operand)) ts ≡ false → heads (on class plain) ts ≡ true
      → reads (at_depth n) (test_from plain) ts ≡ reads (at_depth n) (plain_test plain) ts
  by_plain h k = no_unnamed h ∙ ap (λ b. choose b (reads (at_depth n) (plain_test plain) ts) (reads (at_depth n) word_test ts)) k

  no_plain : heads (on class (first unnamed_operand)) ts ≡ false → heads (on class plain) ts ≡ false → reads (at_depth n) (test_from plain) ts ≡ reads (at_depth n) word_test ts
  no_plain h k = no_unnamed h ∙ ap (λ b. choose b (reads (at_depth n) (plain_test plain) ts) (reads (at_depth n) word_test ts)) k

  pub by_date : heads (on class (first unnamed_operand)) ts ≡ false → heads (on class plain) ts ≡ false → heads (is_mark m.Date) ts ≡ true
      → reads (at_depth n) (test_from plain) ts ≡ reads (at_depth n) date_test ts
  by_date h k j = no_plain h k ∙ ap (λ b. choose b (reads (at_depth n) date_test ts) (reads (at_depth n) group_word_test ts)) j

  pub by_group : heads (on class (first unnamed_operand)) ts ≡ false → heads (on class plain) ts ≡ false → heads (is_mark m.Date) ts ≡ false
      → reads (at_depth n) (test_from plain) ts ≡ reads (at_depth n) group_word_test ts
  by_group h k j = no_plain h k ∙ ap (λ b. choose b (reads (at_depth n) date_test ts) (reads (at_depth n) group_word_test ts)) j
