-- What is read at the next token.
use Rattle.std.proofs.Common.{◌≡◌, refl, sym, ap, ◌∙◌, ℕ, Bool, true, false, ◌||◌, ◌==◌, Option, None, Some, List, [], ◌∷◌, slice_get, is_some, IfSome, cond, nat_lt, ◌^◌, arith}
use Rattle.std.proofs.lemmas.Bool.Decides.{nat_tests}
use Rattle.sql_lexer.specs.declared.token.Kind.{Kind}
use Rattle.sql_lexer.specs.declared.token.Kind.TheVariants as k
use Rattle.sql_lexer.specs.declared.token.Token.{Token}
use Rattle.graph_ast.specs.declared.schema.Named.{Named}
use Rattle.pgq_base.specs.declared.refusal.Span.{Span}
use Rattle.token_grammar.specs.Parser.{Answer, choose, bind, one_p, mapped_p, heads}
use Rattle.token_grammar.specs.Parser.Answer.{got, fault}
use Rattle.token_grammar.specs.declared.fault.Cause.TheVariants.{Unexpected as unexpected}
use Rattle.token_grammar.specs.Code.{tail}
use Rattle.token_grammar.specs.Rules.{on}
use Rattle.token_grammar.specs.Checks.{or}
use Rattle.token_marks.specs.declared.mark.Mark.{Mark}
use Rattle.token_marks.specs.declared.mark.Mark.TheVariants as m
use Rattle.token_marks.specs.Marks.{number_of}
use Rattle.token_reading.specs.Tokens.{class, is_mark, is_name, is_word, span_of, named, bytes_of, number_in, number_at, name_bytes, word_bytes, small_number}
use Rattle.token_reading.proofs.Classes.{name_class, word_class, number_class}

pub heads-first : (f : Token → Bool) (ts : List Token) (x : Token) → Some x ≡ slice_get ts 0 → heads f ts ≡ f x
heads-first f [] x h = absurd cc
heads-first f (y ∷ ys) x h = ap f (let e : y ≡ x = cc in e)

pub one-first : {V : Type 0} (f : Token → Bool) (v : Token → V) (ts : List Token) (x : Token) → Some x ≡ slice_get ts 0 → one_p f v ts
    ≡ choose (f x) (got (v x) (tail ts)) (fault unexpected ts)
one-first f v [] x h = absurd cc
one-first f v (y ∷ ys) x h = let e : y ≡ x = cc in ap (λ z. choose (f z) (got (v z) ys) (fault unexpected (y ∷ ys))) e

-- one test or another
pub heads-or : (f g : ℕ → Bool) (ts : List Token) → heads (on class (or f g)) ts ≡ (heads (on class f) ts || heads (on class g) ts)
heads-or f g [] = refl
heads-or f g (x ∷ xs) = refl

same_number : (n c : ℕ) → n ≡ c → (n == c) ≡ true
same_number n c h = grind (arith, nat_tests)

other_number : (n c : ℕ) → (n ≡ c → ⊥) → (n == c) ≡ false
other_number n c h = grind (arith, nat_tests)

pub next_marked : (ts : List Token) (x : Token) (n c : ℕ) (wanted : Mark) → Some x ≡ slice_get ts 0 → n ≡ class x → c ≡ number_of wanted → (n == c) ≡ heads (is_mark wanted) ts
next_marked ts x n c wanted h e w = rw (e, w) (sym (heads-first (is_mark wanted) ts x h))

pub expected : (ts us : List Token) (x : Token) (n c : ℕ) (wanted : Mark) → Some x ≡ slice_get ts 0 → n ≡ class x → c ≡ number_of wanted → n ≡ c → us ≡ tail ts
    → one_p (is_mark wanted) span_of ts ≡ got x.span us
expected ts us x n c wanted h e w q u = one-first (is_mark wanted) span_of ts x h
    ∙ ap (λ b. choose b (got x.span (tail ts)) (fault unexpected ts)) (same_number (class x) (number_of wanted) (sym e ∙ q ∙ w)) ∙ ap (λ l. got x.span l) (sym u)

pub unexpected_mark : (ts : List Token) (x : Token) (n c : ℕ) (wanted : Mark) → Some x ≡ slice_get ts 0 → n ≡ class x → c ≡ number_of wanted → (n ≡ c → ⊥)
    → one_p (is_mark wanted) span_of ts ≡ fault unexpected ts
unexpected_mark ts x n c wanted h e w q = one-first (is_mark wanted) span_of ts x h
    ∙ ap (λ b. choose b (got x.span (tail ts)) (fault unexpected ts)) (other_number (class x) (number_of wanted) (λ s. q (e ∙ s ∙ sym w)))

-- a name at the next token, if it is one
abbrev pub name_at : Option (List ℕ) → Span → List Token → Answer Token Named
name_at None s ts = fault unexpected ts
name_at (Some bytes) s ts = got (record { name = bytes; span = s }) (tail ts)

named_at : (b : Bool) (kind : Kind) (s : Span) (ts : List Token) (o : Option (List ℕ)) → b ≡ is_some o → IfSome o (λ bytes. bytes_of kind ≡ bytes) →
    choose b (got (let n : Named = record { name = bytes_of kind; span = s } in n) (tail ts)) (fault unexpected ts) ≡ name_at o s ts
named_at b kind s ts None h i = ap (λ t. choose t (got (let n : Named = record { name = bytes_of kind; span = s } in n) (tail ts)) (fault unexpected ts)) h
named_at b kind s ts (Some bytes) h i = ap (λ t. choose t (got (let n : Named = record { name = bytes_of kind; span = s } in n) (tail ts)) (fault unexpected ts)) h
    ∙ ap (λ t. got (let n : Named = record { name = t; span = s } in n) (tail ts)) i

name_means : (kind : Kind) → IfSome (name_bytes kind) (λ bytes. bytes_of kind ≡ bytes)
name_means = elim [ k.Word w ↦ refl | k.Delimited w ↦ refl | _ ↦ tt ]

word_means : (kind : Kind) → IfSome (word_bytes kind) (λ bytes. bytes_of kind ≡ bytes)
word_means = elim [ k.Word w ↦ refl | _ ↦ tt ]

pub name_first : (ts : List Token) (x : Token) → Some x ≡ slice_get ts 0 → one_p (on class is_name) named ts ≡ name_at (name_bytes x.kind) x.span ts
name_first ts x h = one-first (on class is_name) named ts x h ∙ named_at (is_name (class x)) x.kind x.span ts (name_bytes x.kind) (name_class x) (name_means x.kind)

pub word_first : (ts : List Token) (x : Token) → Some x ≡ slice_get ts 0 → one_p (on class is_word) named ts ≡ name_at (word_bytes x.kind) x.span ts
word_first ts x h = one-first (on class is_word) named ts x h ∙ named_at (is_word (class x)) x.kind x.span ts (word_bytes x.kind) (word_class x) (word_means x.kind)

abbrev pub unit_at : Option (List ℕ) → List Token → Answer Token (Unit {0})
unit_at None ts = fault unexpected ts
unit_at (Some bytes) ts = got tt (tail ts)

unit_of : (o : Option (List ℕ)) (s : Span) (ts : List Token) → bind (name_at o s ts) (λ a r. got tt r) ≡ unit_at o ts
unit_of None s ts = refl
unit_of (Some bytes) s ts = refl

pub skip_first : (ts : List Token) (x : Token) → Some x ≡ slice_get ts 0 → mapped_p (λ d. tt) (one_p (on class is_name) named) ts ≡ unit_at (name_bytes x.kind) ts
skip_first ts x h = ap (λ a. bind a (λ a r. got tt r)) (name_first ts x h) ∙ unit_of (name_bytes x.kind) x.span ts

pub next_word : (ts : List Token) (x : Token) (o : Option (List ℕ)) → Some x ≡ slice_get ts 0 → o ≡ word_bytes x.kind → is_some o ≡ heads (on class is_word) ts
next_word ts x o h e = ap is_some e ∙ sym (word_class x) ∙ sym (heads-first (on class is_word) ts x h)

pub next_name : (ts : List Token) (x : Token) (o : Option (List ℕ)) → Some x ≡ slice_get ts 0 → o ≡ name_bytes x.kind → is_some o ≡ heads (on class is_name) ts
next_name ts x o h e = ap is_some e ∙ sym (name_class x) ∙ sym (heads-first (on class is_name) ts x h)

-- a number below 2^63 at the next token, if it is one
abbrev pub small_at : Option ℕ → Span → List Token → Answer Token (ℕ × Span)
small_at None s ts = fault unexpected ts
small_at (Some n) s ts = got (n, s) (tail ts)

numbered_at : (b : Bool) (v : ℕ) (s : Span) (ts : List Token) (o : Option ℕ) → b ≡ is_some o → IfSome o (λ n. v ≡ n) → choose b (got (v, s) (tail ts)) (fault unexpected ts)
    ≡ small_at o s ts
numbered_at b v s ts None h i = ap (λ t. choose t (got (v, s) (tail ts)) (fault unexpected ts)) h
numbered_at b v s ts (Some n) h i = ap (λ t. choose t (got (v, s) (tail ts)) (fault unexpected ts)) h ∙ ap (λ t. got (t, s) (tail ts)) i

small_if : (b : Bool) (n : ℕ) → IfSome (cond b (Some n) None) (λ i. n ≡ i)
small_if true n = refl
small_if false n = tt

number_means : (kind : Kind) → IfSome (small_number kind) (λ n. number_in kind ≡ n)
number_means = elim [ k.Number n ↦ small_if (nat_lt n (2 ^ 63)) n | _ ↦ tt ]

pub number_first : (ts : List Token) (x : Token) → Some x ≡ slice_get ts 0 → one_p (is_mark m.Number) number_at ts ≡ small_at (small_number x.kind) x.span ts
number_first ts x h = one-first (is_mark m.Number) number_at ts x h
    ∙ numbered_at (is_mark m.Number x) (number_in x.kind) x.span ts (small_number x.kind) (number_class x) (number_means x.kind)
