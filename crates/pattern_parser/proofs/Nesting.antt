-- What nests, by the depth that is left.
use Rattle.std.proofs.Common.{◌≡◌, refl, sym, ap, ◌∙◌, ℕ, suc, ◌-◌, ◌==◌, cond, Bool, true, false, List, arith}
use Rattle.std.proofs.lemmas.Bool.Decides.{nat_tests}
use Rattle.pgq_base.specs.declared.refusal.Span.{Span}
use Rattle.sql_lexer.specs.declared.token.Token.{Token}
use Rattle.graph_ast.specs.declared.query.Factor.{Factor}
use Rattle.token_grammar.specs.Rules.{bracketed, put_to}
use Rattle.token_grammar.specs.Rules.Rule.{nest}
use Rattle.token_grammar.specs.Parser.{Answer, Parser, heads, choose, bind, mapped_p, seq_p, one_p, inner}
use Rattle.token_grammar.specs.Parser.Answer.{got, fault}
use Rattle.token_grammar.specs.declared.fault.Cause.TheVariants.{Unexpected as unexpected, TooDeep as too_deep}
use Rattle.token_marks.specs.declared.mark.Mark.{Mark}
use Rattle.token_marks.specs.declared.mark.Mark.TheVariants as m
use Rattle.token_marks.specs.Marks.{number_of}
use Rattle.token_reading.specs.Tokens.{is_mark, span_of}
use Rattle.condition_grammar.specs.Classes.{left_parenthesis, right_parenthesis}
use Rattle.condition_grammar.specs.Conditions.{Inside}
use Rattle.condition_nodes.specs.Reading.{open_p}
use Rattle.pattern_parser.specs.declared.pieces.Placed.{Placed}
use Rattle.pattern_parser.specs.Insides.{Own, HeldInside}
use Rattle.pattern_parser.specs.Patterns.{bounds, quantifier, part_or_vertex}
use Rattle.pattern_parser.specs.Queries.{inside}
use Rattle.pattern_parser.specs.Reading.{reads, at_depth, reads_branch}

abbrev pub Bracketed : Inside Own → Type 0
Bracketed k = Span × HeldInside k × Span

pub nest_zero : (o c : Mark) (k : Inside Own) {V : Type 0} (f : Bracketed k → V) (n : ℕ) (ts : List Token) → n ≡ 0 →
    mapped_p f (reads (at_depth n) (nest span_of (number_of o) (number_of c) k)) ts ≡ choose (heads (is_mark o) ts) (fault too_deep ts) (fault unexpected ts)
unfolding inner
nest_zero o c k f n ts h = ap (λ m. mapped_p f (reads (at_depth m) (nest span_of (number_of o) (number_of c) k)) ts) h ∙ at (heads (is_mark o) ts) where
  at : (b : Bool) → bind {A = Bracketed k} (choose b (fault too_deep ts) (fault unexpected ts)) (λ d r. got (f d) r) ≡ choose b (fault too_deep ts) (fault unexpected ts)
  at true = refl
  at false = refl

-- brackets round what is named, by what reads the first of them
abbrev pub nested_p : Parser Token Span → (c : Mark) (k : Inside Own) {V : Type 0} (f : Bracketed k → V) → ℕ → Parser Token V
nested_p P c k f n = mapped_p f (mapped_p bracketed (seq_p P (seq_p (reads (at_depth n) (inside k)) (one_p (is_mark c) span_of))))

one_less : (n : ℕ) → (n ≡ 0 → ⊥) → n ≡ suc (n - 1)
one_less n h = omega (arith, h)

pub nest_suc : (o c : Mark) (k : Inside Own) {V : Type 0} (f : Bracketed k → V) (n : ℕ) (ts : List Token) → (n ≡ 0 → ⊥) →
    mapped_p f (reads (at_depth n) (nest span_of (number_of o) (number_of c) k)) ts ≡ nested_p (one_p (is_mark o) span_of) c k f (n - 1) ts
unfolding inner
nest_suc o c k f n ts h = ap (λ m. mapped_p f (reads (at_depth m) (nest span_of (number_of o) (number_of c) k)) ts) (one_less n h)

is_zero : (n : ℕ) → (n == 0) ≡ true → n ≡ 0
is_zero n h = grind (arith, nat_tests)

not_zero : (n : ℕ) → (n == 0) ≡ false → n ≡ 0 → ⊥
not_zero n h e = absurd (grind (arith, nat_tests))

abbrev opened : Parser Token Span
opened ts = one_p (is_mark m.LeftParenthesis) span_of ts

abbrev closed : Bool → List Token → Answer Token Span
closed b ts = choose b (fault too_deep ts) (fault unexpected ts)

open_zero : (n : ℕ) (ts : List Token) → (n == 0) ≡ true → open_p n ts ≡ closed (heads (is_mark m.LeftParenthesis) ts) ts
open_zero n ts e = ap (λ b. cond b (closed (heads (is_mark m.LeftParenthesis) ts) ts) (opened ts)) e

open_suc : (n : ℕ) (ts : List Token) → (n == 0) ≡ false → open_p n ts ≡ opened ts
open_suc n ts e = ap (λ b. cond b (closed (heads (is_mark m.LeftParenthesis) ts) ts) (opened ts)) e

-- parentheses, at any depth
module _ (k : Inside Own) {V : Type 0} (f : Bracketed k → V) where
  abbrev behind : ℕ → List Token → Answer Token Span → Answer Token V
  behind n ts a = nested_p (λ us. a) m.RightParenthesis k f (n - 1) ts

  stays : (n : ℕ) (ts : List Token) (b : Bool) → behind n ts (closed b ts) ≡ choose b (fault too_deep ts) (fault unexpected ts)
  stays n ts true = refl
  stays n ts false = refl

  pub nest_open : (n : ℕ) (ts : List Token) → mapped_p f (reads (at_depth n) (nest span_of left_parenthesis right_parenthesis k)) ts ≡ nested_p
      (open_p n) m.RightParenthesis k f (n - 1) ts
  nest_open n ts = by (n == 0) refl where
    by : (b : Bool) → (n == 0) ≡ b → mapped_p f (reads (at_depth n) (nest span_of left_parenthesis right_parenthesis k)) ts ≡ nested_p (open_p n) m.RightParenthesis k f (n - 1) ts
    by true e = nest_zero m.LeftParenthesis m.RightParenthesis k f n ts (is_zero n e) ∙ sym
        (ap (behind n ts) (open_zero n ts e) ∙ stays n ts (heads (is_mark m.LeftParenthesis) ts))
    by false e = nest_suc m.LeftParenthesis m.RightParenthesis k f n ts (not_zero n e) ∙ sym (ap (behind n ts) (open_suc n ts e))

-- a part or a vertex, at any depth
abbrev branched : ℕ → List Token → Answer Token Span → Answer Token (Placed Factor)
branched n ts a = mapped_p put_to (seq_p (λ us. a) (reads_branch n)) ts

fork_stays : (n : ℕ) (ts : List Token) (b : Bool) → branched n ts (closed b ts) ≡ choose b (fault too_deep ts) (fault unexpected ts)
fork_stays n ts true = refl
fork_stays n ts false = refl

fork_zero : (n : ℕ) (ts : List Token) → n ≡ 0 → reads (at_depth n) part_or_vertex ts ≡ choose (heads (is_mark m.LeftParenthesis) ts) (fault too_deep ts) (fault unexpected ts)
unfolding inner part_or_vertex
fork_zero n ts h = ap (λ i. reads (at_depth i) part_or_vertex ts) h

fork_suc : (n : ℕ) (ts : List Token) → (n ≡ 0 → ⊥) → reads (at_depth n) part_or_vertex ts ≡ branched n ts (opened ts)
unfolding inner part_or_vertex bounds quantifier
fork_suc n ts h = ap (λ i. reads (at_depth i) part_or_vertex ts) (one_less n h)

pub fork_open : (n : ℕ) (ts : List Token) → reads (at_depth n) part_or_vertex ts ≡ mapped_p put_to (seq_p (open_p n) (reads_branch n)) ts
fork_open n ts = by (n == 0) refl where
  by : (b : Bool) → (n == 0) ≡ b → reads (at_depth n) part_or_vertex ts ≡ mapped_p put_to (seq_p (open_p n) (reads_branch n)) ts
  by true e = fork_zero n ts (is_zero n e) ∙ sym (ap (branched n ts) (open_zero n ts e) ∙ fork_stays n ts (heads (is_mark m.LeftParenthesis) ts))
  by false e = fork_suc n ts (not_zero n e) ∙ sym (ap (branched n ts) (open_suc n ts e))
