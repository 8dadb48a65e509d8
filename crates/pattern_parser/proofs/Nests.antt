-- What stands between parentheses, as the code goes.
use Rattle.std.proofs.Common.{◌≡◌, refl, ap₂, arith, cond, ◌==◌, ℕ, zero, suc, ◌-◌, Bool, true, false, List}
use Rattle.std.proofs.lemmas.Bool.Decides.{nat_tests}
use Rattle.pgq_base.specs.declared.refusal.Span.{Span}
use Rattle.sql_lexer.specs.declared.token.Token.{Token}
use Rattle.token_marks.specs.declared.mark.Mark.TheVariants as m
use Rattle.token_grammar.specs.Rules.{bracketed}
use Rattle.token_grammar.specs.Rules.Rule.{nest}
use Rattle.token_grammar.specs.Parser.{Answer, heads, choose, bind, mapped_p, seq_p, one_p, blocked_p, inner}
use Rattle.token_grammar.specs.Parser.Answer.{got, fault}
use Rattle.token_grammar.specs.declared.fault.Cause.TheVariants.{Unexpected as unexpected, TooDeep as too_deep}
use Rattle.token_reading.specs.Tokens.{is_mark, span_of}
use Rattle.condition_grammar.specs.Classes.{left_parenthesis, right_parenthesis}
use Rattle.condition_grammar.specs.Conditions.{Inside}
use Rattle.condition_nodes.specs.Reading.{open_p}
use Rattle.pattern_parser.specs.Insides.{Own, HeldInside}
use Rattle.pattern_parser.specs.Queries.{inside}
use Rattle.pattern_parser.specs.Reading.{reads, at_depth}

-- the parenthesis, what it holds, and the other one
abbrev pub nested_p : ℕ → (k : Inside Own) → List Token → Answer Token (Span × HeldInside k × Span)
nested_p n k = mapped_p bracketed (seq_p (open_p n) (seq_p (reads (at_depth (n - 1)) (inside k)) (one_p (is_mark m.RightParenthesis) span_of)))

pub nest_is : (n : ℕ) (k : Inside Own) (ts : List Token) → reads (at_depth n) (nest span_of left_parenthesis right_parenthesis k) ts ≡ nested_p n k ts
unfolding inner
nest_is zero k ts = at (heads (is_mark m.LeftParenthesis) ts)
  where
    at : (b : Bool) → choose {A = Answer Token (Span × HeldInside k × Span)} b (fault too_deep ts) (fault unexpected ts)
        ≡ bind (bind (choose {A = Answer Token Span} b (fault too_deep ts) (fault unexpected ts))
        (λ a r. mapped_p (λ b. (a, b)) (seq_p (reads (at_depth 0) (inside k)) (one_p (is_mark m.RightParenthesis) span_of)) r)) (λ d r. got (bracketed d) r)
    at true = refl
    at false = refl
nest_is (suc n) k ts = ap₂ (λ b i. mapped_p bracketed (seq_p (λ us. cond b (blocked_p (is_mark m.LeftParenthesis) us) (one_p (is_mark m.LeftParenthesis) span_of us))
    (seq_p (reads (at_depth i) (inside k)) (one_p (is_mark m.RightParenthesis) span_of))) ts) more less
  where
    more : false ≡ (suc n == 0)
    more = grind (arith, nat_tests)

    less : n ≡ suc n - 1
    less = omega arith
