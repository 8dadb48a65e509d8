-- The first member of an item that begins with no aggregate's word is read as any member of a condition.
use Rattle.std.proofs.Common.{◌≡◌, refl, sym, ap, ap₂, ◌∙◌, ℕ, Bool, true, false, Some, not, ◌&&◌, ◌==◌, List, [], ◌∷◌}
use Rattle.sql_lexer.specs.declared.token.Token.{Token}
use Rattle.token_marks.specs.declared.mark.Mark.TheVariants as m
use Rattle.token_marks.specs.Marks.{number_of}
use Rattle.token_grammar.specs.Rules.{on}
use Rattle.token_grammar.specs.Checks.{first}
use Rattle.token_grammar.specs.Parser.{choose, bind, heads, one_p, mapped_p}
use Rattle.token_grammar.specs.Parser.Answer.{got, fault}
use Rattle.token_grammar.specs.declared.fault.Cause.TheVariants.{Unexpected as unexpected}
use Rattle.token_reading.specs.Tokens.{class, is_mark, named}
use Rattle.graph_ast.specs.declared.schema.Named.{Named}
use Rattle.condition_grammar.specs.Conditions as g
use Rattle.graph_ast.specs.declared.query.Item.{Item}
use Rattle.token_grammar.specs.Rules.Rule.{mapped, seq}
use Rattle.condition_grammar.specs.Spans.{not_if}
use Rattle.pattern_parser.specs.Insides.{Production, the}
use Rattle.pattern_parser.specs.Items.{count_item, leaf_item}
use Rattle.pattern_parser.specs.Tests.{OfName, put_name, is_plain, after_name, unnamed_operand, test, test_from, negation}
use Rattle.pattern_parser.specs.Queries.{is_ungathered, is_leaf_word, first_member, item_rest, item}
use Rattle.pattern_parser.specs.Reading.{reads, at_depth}
use Rattle.pattern_parser.proofs.Puts.{not_first}
use Rattle.pattern_parser.proofs.Heads.{unnamed_test, word_test}

and_trues : (b : Bool) → (b && true && true) ≡ b
and_trues true = refl
and_trues false = refl

same_class : (c : ℕ) → (c == number_of m.Count) ≡ false → is_leaf_word c ≡ false → is_ungathered c ≡ is_plain c
same_class c h k = ap₂ (λ a b. is_plain c && not a && not b) h k ∙ and_trues (is_plain c)

same_head : (ts : List Token) → heads (is_mark m.Count) ts ≡ false → heads (on class is_leaf_word) ts ≡ false → heads (on class is_ungathered) ts ≡ heads (on class is_plain) ts
same_head [] h k = refl
same_head (x ∷ xs) h k = same_class (class x) h k

same_one : (ts : List Token) → heads (is_mark m.Count) ts ≡ false → heads (on class is_leaf_word) ts ≡ false
    → one_p (on class is_ungathered) named ts ≡ one_p (on class is_plain) named ts
same_one [] h k = refl
same_one (x ∷ xs) h k = ap (λ b. choose b (got (named x) xs) (fault unexpected (x ∷ xs))) (same_class (class x) h k)

module _ (n : ℕ) (ts : List Token) (count : heads (is_mark m.Count) ts ≡ false) (leaf : heads (on class is_leaf_word) ts ≡ false) where
  same_test : reads (at_depth n) (test_from is_ungathered) ts ≡ reads (at_depth n) test ts
  unfolding test_from unnamed_operand g.literals g.coalesce g.parens
  same_test =
      ap₂ (λ b z. choose (heads (on class (first unnamed_operand)) ts) (reads (at_depth n) unnamed_test ts)
      (choose b (bind (bind z (λ a r. mapped_p (λ f. let p : Named × OfName = (a, f) in p) (reads (at_depth n) after_name) r)) (λ d r. got (put_name d) r))
      (reads (at_depth n) word_test ts)))
      (same_head ts count leaf) (same_one ts count leaf)

  pub first_is_member : reads (at_depth n) first_member ts ≡ reads (at_depth n) negation ts
  unfolding g.negation first_member
  first_is_member =
      ap (λ z. choose (heads (is_mark m.Not) ts) (reads (at_depth n) (mapped (λ d. not_if (Some d.0) d.1) (seq (the m.Not) test)) ts) z) same_test
      ∙ sym (not_first (reads (at_depth n) (the m.Not)) (reads (at_depth n) test) (heads (is_mark m.Not) ts) ts)

  abbrev pub member_item : Production Item
  member_item = mapped (λ d. d.1 d.0) (seq first_member item_rest)

  pub by_member : reads (at_depth n) item ts ≡ reads (at_depth n) member_item ts
  unfolding item
  by_member =
      ap (λ b. choose b (reads (at_depth n) count_item ts) (choose (heads (on class is_leaf_word) ts) (reads (at_depth n) leaf_item ts) (reads (at_depth n) member_item ts))) count
      ∙ ap (λ b. choose b (reads (at_depth n) leaf_item ts) (reads (at_depth n) member_item ts)) leaf
