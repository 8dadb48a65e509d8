-- The one token of a text is its name, or it has none.
use Rattle.std.proofs.Common.{◌≡◌, ℕ, ◌<◌, ◌==◌, ◌&&◌, Bool, true, false, cond, List, [], ◌∷◌, length, Option, None, Some, Result, Ok, Err, IfOk, refl, sym, ap, ◌∙◌, subst, arith}
use Rattle.std.proofs.lemmas.Bool.Decides.{Decides-eqb}
use Rattle.sql_lexer.specs.declared.token.Token.{Token}
use Rattle.sql_lexer.specs.declared.token.Kind.{Kind}
use Rattle.sql_lexer.specs.Tokens.{token}
use Rattle.sql_lexer.specs.Texts.{AreTokens}
use Rattle.sql_lexer.proofs.Uniqueness.{tokens_unique}
use Rattle.table_words.specs.TableWords.{name_of, name_alone, IsIdentifier, Names}
use Rattle.table_words.proofs.Identifiers.{identifiers_short}

pub too_long : (text : List ℕ) → 258 < length text → (name : List ℕ) → IsIdentifier text name → ⊥
too_long text long name is = let short = identifiers_short text name is in omega arith

both : (a b : Bool) → (a && b) ≡ true → (a ≡ true) × (b ≡ true)
both true b h = (refl, h)
both false b h = (h, cc)

same_number : (n : ℕ) → (n == n) ≡ true
same_number n = (Decides-eqb n n).1 refl

-- whether the token stands on the whole text
abbrev spans : ℕ → Token → Bool
spans len t = t.span.from == 0 && t.span.to == len

spans_whole : (len : ℕ) (t : Token) → spans len t ≡ true → t ≡ token 0 len t.kind
spans_whole len t h =
    let two = both (t.span.from == 0) (t.span.to == len) h in
    let from : t.span.from ≡ 0 = (Decides-eqb t.span.from 0).0 two.0 in
    let to : t.span.to ≡ len = (Decides-eqb t.span.to len).0 two.1 in
    ap (λ n. token n t.span.to t.kind) from ∙ ap (λ n. token 0 n t.kind) to

whole_spans : (len : ℕ) (t : Token) (k : Kind) → t ≡ token 0 len k → spans len t ≡ true
whole_spans len t k h = ap (spans len) h ∙ same_number len

module _ (text : List ℕ) where
  one_token : (t : Token) → AreTokens text (t ∷ []) → (name : List ℕ) → (is : IsIdentifier text name) → t ≡ token 0 (length text) is.kind
  one_token t are name is =
      let same : t ∷ [] ≡ token 0 (length text) is.kind ∷ [] = tokens_unique text (t ∷ []) (token 0 (length text) is.kind ∷ []) are is.tokens in
      cc

  by_name : (t : Token) → AreTokens text (t ∷ []) → spans (length text) t ≡ true → (o : Option (List ℕ)) → name_of t.kind ≡ o → Names text o
  by_name t are whole None none = λ name is.
      let k : t.kind ≡ is.kind = ap (λ t. t.kind) (one_token t are name is) in
      let e : None ≡ Some name = sym none ∙ ap name_of k ∙ is.named in
      cc
  by_name t are whole (Some name) some =
      record { kind = t.kind; tokens = subst (λ t. AreTokens text (t ∷ [])) (spans_whole (length text) t whole) are; named = some }

  by_span : (t : Token) → AreTokens text (t ∷ []) → (b : Bool) → spans (length text) t ≡ b → Names text (cond b (name_of t.kind) None)
  by_span t are true whole = by_name t are whole (name_of t.kind) refl
  by_span t are false part = λ name is.
      let e : true ≡ false = sym (whole_spans (length text) t is.kind (one_token t are name is)) ∙ part in
      cc

  named_by : (ts : List Token) → AreTokens text ts → Names text (name_alone (length text) ts)
  named_by [] are = λ name is.
      let same : [] ≡ token 0 (length text) is.kind ∷ [] = tokens_unique text [] (token 0 (length text) is.kind ∷ []) are is.tokens in
      cc
  named_by (t ∷ []) are = by_span t are (spans (length text) t) refl
  named_by (t ∷ u ∷ more) are = λ name is.
      let same : t ∷ u ∷ more ≡ token 0 (length text) is.kind ∷ [] = tokens_unique text (t ∷ u ∷ more) (token 0 (length text) is.kind ∷ []) are is.tokens in
      cc

  pub of_tokens : {E : Type 0} (ts : List Token) (result : Result (Option (List ℕ)) E) → AreTokens text ts → IfOk result (λ name. name ≡ name_alone (length text) ts)
      → IfOk result (Names text)
  of_tokens ts (Ok name) are is = subst (Names text) (sym is) (named_by ts are)
  of_tokens ts (Err e) are is = tt
