-- Refusals that are told apart by their parts, and the places that they name.
use Rattle.std.proofs.Common.{◌≡◌, refl, ap, ◌∙◌, ℕ, zero, suc, List, [], ◌∷◌, drop, slice_get, arith}
use Rattle.pgq_base.specs.declared.refusal.Span.{Span}
use Rattle.pgq_base.specs.declared.refusal.Role.{Role}
use Rattle.pgq_base.specs.declared.refusal.Detail.{Detail}
use Rattle.pgq_base.specs.declared.refusal.Refusal.{Refusal}
use Rattle.pgq_base.specs.declared.code.Code.{Code}
use Rattle.sql_lexer.specs.declared.token.Token.{Token}
use Rattle.sql_lexer.specs.Spans.{LiesIn, TokensLieIn}
use Rattle.token_reading.specs.Refusals.{span_at}

pub span_in_text : (end n : ℕ) (ts : List Token) → TokensLieIn end ts → LiesIn end (span_at end (slice_get ts n))
span_in_text end n [] h = (omega arith, omega arith)
span_in_text end zero (t ∷ ts) h = h.0
span_in_text end (suc n) (t ∷ ts) h = span_in_text end n ts h.1

-- the place of a fault is told by what is left there
pub at_place : (end p : ℕ) (ts : List Token) → span_at end (slice_get ts p) ≡ span_at end (slice_get (drop p ts) 0)
at_place end zero [] = refl
at_place end (suc p) [] = refl
at_place end zero (t ∷ ts) = refl
at_place end (suc p) (t ∷ ts) = at_place end p ts

abbrev pub made : Role → Span → Code → Detail → Refusal
made role span code detail = record { role = role; span = span; code = code; detail = detail }

pub same_refusal : (a b : Refusal) → a.role ≡ b.role → a.span ≡ b.span → a.code ≡ b.code → a.detail ≡ b.detail → a ≡ b
same_refusal a b r s c d =
    ap (λ x. made x a.span a.code a.detail) r ∙ ap (λ x. made b.role x a.code a.detail) s ∙ ap (λ x. made b.role b.span x a.detail) c ∙ ap (λ x. made b.role b.span b.code x) d
