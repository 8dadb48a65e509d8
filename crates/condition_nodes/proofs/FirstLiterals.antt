-- What is read at the next token, if it is a literal.
use Rattle.std.proofs.Common.{◌≡◌, refl, ap, ◌∙◌, ℕ, Bool, true, false, Option, None, Some, List, [], ◌∷◌, slice_get, is_some, IfSome}
use Rattle.pgq_base.specs.declared.refusal.Span.{Span}
use Rattle.pgq_base.specs.declared.value.Value.{Value}
use Rattle.pgq_base.specs.declared.value.Value.TheVariants.{Text}
use Rattle.sql_lexer.specs.declared.token.Token.{Token}
use Rattle.token_marks.specs.Marks.{mark}
use Rattle.token_grammar.specs.Parser.{Answer, choose, bind, one_p, mapped_p}
use Rattle.token_grammar.specs.Parser.Answer.{got, fault}
use Rattle.token_grammar.specs.declared.fault.Cause.TheVariants.{Unexpected as unexpected}
use Rattle.token_grammar.specs.Code.{tail}
use Rattle.token_grammar.specs.Rules.{on, the_token}
use Rattle.token_reading.specs.Tokens.{class}
use Rattle.token_reading.proofs.FirstTokens.{one-first}
use Rattle.condition_grammar.specs.declared.spanned.Spanned.{Spanned}
use Rattle.condition_grammar.specs.Classes.{is_numeral, is_negatable, is_text, is_date_literal}
use Rattle.condition_grammar.specs.Dates.{date_value}
use Rattle.condition_grammar.specs.Spans.{literal, reach}
use Rattle.condition_grammar.specs.Conditions.{literal_of, text_in}
use Rattle.condition_nodes.specs.Literals.{plain_value, negated_value, literal_text, literal_date}
use Rattle.condition_nodes.proofs.LiteralKinds.{plain_test, plain_means, negated_test, negated_means, text_test, text_means, date_test, date_means}

-- what is got of a token that has what is wanted
abbrev pub chosen : {P V : Type 0} → (P → Span → V) → Option P → Span → List Token → Answer Token V
chosen made None span ts = fault unexpected ts
chosen made (Some p) span ts = got (made p span) (tail ts)

by_kind : {P V : Type 0} (made : P → Span → V) (f : ℕ → Bool) (v : Token → V) (ts : List Token) (x : Token) (o : Option P) → Some x ≡ slice_get ts 0
    → f (class x) ≡ is_some o → IfSome o (λ p. v x ≡ made p x.span) → one_p (on class f) v ts ≡ chosen made o x.span ts
by_kind made f v ts x None h t i = one-first (on class f) v ts x h ∙ ap (λ b. choose b (got (v x) (tail ts)) (fault unexpected ts)) t
by_kind made f v ts x (Some p) h t i = one-first (on class f) v ts x h ∙ ap (λ b. choose b (got (v x) (tail ts)) (fault unexpected ts)) t ∙ ap (λ w. got w (tail ts)) i

made_of : {P Q V : Type 0} (q : Q) (made : Q → Span → V) (span : Span) (o : Option P) (into : P → Q) → IfSome o (λ p. q ≡ into p) → IfSome o (λ p. made q span ≡ made (into p) span)
made_of q made span None into h = tt
made_of q made span (Some p) into h = ap (λ y. made y span) h

module _ {L : Type 0} where
  abbrev pub valued : Value → Span → Spanned L
  valued v span = literal span v

  pub plain_first : (ts : List Token) (x : Token) → Some x ≡ slice_get ts 0 → one_p (on class is_numeral) (λ t. literal {L = L} t.span (literal_of false t.kind)) ts
      ≡ chosen valued (plain_value x.kind) x.span ts
  unfolding class mark
  plain_first ts x h = by_kind valued is_numeral (λ t. literal {L = L} t.span (literal_of false t.kind)) ts x (plain_value x.kind) h (plain_test x.kind)
      (made_of (literal_of false x.kind) valued x.span (plain_value x.kind) (λ v. v) (plain_means x.kind))

  abbrev pub texted : List ℕ → Span → Spanned L
  texted t span = literal span (Text t)

  pub text_first : (ts : List Token) (x : Token) → Some x ≡ slice_get ts 0 → one_p (on class is_text) (λ t. literal {L = L} t.span (Text (text_in t.kind))) ts
      ≡ chosen texted (literal_text x.kind) x.span ts
  unfolding class mark
  text_first ts x h = by_kind texted is_text (λ t. literal {L = L} t.span (Text (text_in t.kind))) ts x (literal_text x.kind) h (text_test x.kind)
      (made_of (text_in x.kind) texted x.span (literal_text x.kind) (λ t. t) (text_means x.kind))

  abbrev pub dated_from : Span → Value → Span → Spanned L
  dated_from word v span = literal (reach word span) v

  pub date_first : (word : Span) (ts : List Token) (x : Token) → Some x ≡ slice_get ts 0
      → one_p (on class is_date_literal) (λ t. literal {L = L} (reach word t.span) (date_value (text_in t.kind))) ts ≡ chosen (dated_from word) (literal_date x.kind) x.span ts
  unfolding class mark
  date_first word ts x h = by_kind (dated_from word) is_date_literal (λ t. literal {L = L} (reach word t.span) (date_value (text_in t.kind))) ts x (literal_date x.kind) h
      (date_test x.kind) (made_of (date_value (text_in x.kind)) (dated_from word) x.span (literal_date x.kind) (λ v. v) (date_means x.kind))

one_mapped : {V : Type 0} (f : Token → Bool) (v : Token → V) (ts : List Token) → mapped_p v (one_p f the_token) ts ≡ one_p f v ts
one_mapped f v [] = refl
one_mapped f v (x ∷ xs) = at (f x)
  where
    at : (b : Bool) → bind (choose b (got (the_token x) xs) (fault unexpected (x ∷ xs))) (λ t r. got (v t) r) ≡ choose b (got (v x) xs) (fault unexpected (x ∷ xs))
    at true = refl
    at false = refl

abbrev pub paired : Value → Span → Value × Span
paired v span = (v, span)

pub negated_first : (ts : List Token) (x : Token) → Some x ≡ slice_get ts 0 → mapped_p (λ t. (literal_of true t.kind, t.span)) (one_p (on class is_negatable) the_token) ts
    ≡ chosen paired (negated_value x.kind) x.span ts
unfolding class mark
negated_first ts x h = one_mapped (on class is_negatable) (λ t. (literal_of true t.kind, t.span)) ts
    ∙ by_kind paired is_negatable (λ t. (literal_of true t.kind, t.span)) ts x (negated_value x.kind) h (negated_test x.kind)
    (made_of (literal_of true x.kind) paired x.span (negated_value x.kind) (λ v. v) (negated_means x.kind))
