-- A refusal of the two texts of `translate` names a part of the one of its role.
use Rattle.std.proofs.Common.{◌≡◌, refl, subst, sym, ℕ, List, length, ◌⊎◌, inl, inr, Bool, true, false, cond, Option, None, Some, Result, Ok, Err, IfErr, arith}
use Rattle.std.specs.Prelude.{nat_le}
use Rattle.pgq_base.specs.declared.code.Code.TheVariants.{TextTooLarge}
use Rattle.pgq_base.specs.declared.refusal.Refusal.{Refusal}
use Rattle.pgq_base.specs.declared.refusal.Role.{Role}
use Rattle.pgq_base.specs.declared.refusal.Role.TheVariants.{Schema, Query, Sql}
use Rattle.pgq_base.specs.declared.refusal.Stop.{Stop}
use Rattle.pgq_base.specs.declared.refusal.Stop.TheVariants as s
use Rattle.sql_lexer.specs.Texts.{refusal}
use Rattle.graph_ast.specs.declared.catalog.Catalog.{Catalog}
use Rattle.pgq_program.specs.Places.{IsPart, NamesPart, StopNamesPart, of_role}
use Rattle.pgq_program.specs.Texts.{next, sized, IsSchemaDue, IsQueryDue, IsTextsDue, IsStopOf}
use Rattle.pgq_program.proofs.Placed.{IsPlaced, read}
use Rattle.pgq_program.proofs.PlacedQueries.{query_read}

-- ---- two steps

-- a step after another one was refused: the first one was, or the second one of what the first one gave
pub refused_next : {A B E : Type 0} (r : Result A E) (step : A → Result B E) (e : E) → next r step ≡ Err e → (r ≡ Err e) ⊎ ((x : A) × (r ≡ Ok x) × (step x ≡ Err e))
refused_next (Ok x) step e is = inr (x, refl, is)
refused_next (Err f) step e is = inl cc

-- ---- one text

module _ (role : Role) (text : List ℕ) where
  pub too_large : (r : Refusal) → sized role text ≡ Err r → IsPlaced role (length text) r
  too_large r e = by (nat_le (length text) 1048576) e
    where
      by : (b : Bool) → cond b (let t : Result (List ℕ) Refusal = Ok text in t) (Err (refusal role TextTooLarge (record { from = 0; to = 0 }))) ≡ Err r
          → IsPlaced role (length text) r
      by true e = absurd cc
      by false e = let same : refusal role TextTooLarge (record { from = 0; to = 0 }) ≡ r = cc in subst (IsPlaced role (length text)) same (refl, (omega arith, omega arith))

  pub within_size : (read : List ℕ) → sized role text ≡ Ok read → text ≡ read
  within_size read e = by (nat_le (length text) 1048576) e
    where
      by : (b : Bool) → cond b (let t : Result (List ℕ) Refusal = Ok text in t) (Err (refusal role TextTooLarge (record { from = 0; to = 0 }))) ≡ Ok read → text ≡ read
      by true e = cc
      by false e = absurd cc

-- ---- both texts

pub schema_part : (schema : List ℕ) (query sql : Option (List ℕ)) (r : Refusal) → IsPlaced Schema (length schema) r → NamesPart (of_role (Some schema) query sql) r
schema_part schema query sql r placed = subst (λ role. IsPart (of_role (Some schema) query sql role) r.span) (sym placed.0) placed.1

pub query_part : (schema sql : Option (List ℕ)) (query : List ℕ) (r : Refusal) → IsPlaced Query (length query) r → NamesPart (of_role schema (Some query) sql) r
query_part schema sql query r placed = subst (λ role. IsPart (of_role schema (Some query) sql role) r.span) (sym placed.0) placed.1

pub sql_part : (schema query : Option (List ℕ)) (sql : List ℕ) (r : Refusal) → IsPlaced Sql (length sql) r → NamesPart (of_role schema query (Some sql)) r
sql_part schema query sql r placed = subst (λ role. IsPart (of_role schema query (Some sql) role) r.span) (sym placed.0) placed.1

pub refused_schema : (schema : List ℕ) (r : Refusal) → IsSchemaDue schema (Err r) → IsPlaced Schema (length schema) r
refused_schema schema r (inl e) = too_large Schema schema r e
refused_schema schema r (inr (text, is, fault)) = subst (λ (t : List ℕ). IsPlaced Schema (length t) r) (sym (within_size Schema schema text is)) (read text r fault)

pub refused_query : (catalog : Catalog) (query : List ℕ) (r : Refusal) → IsQueryDue catalog query (Err r) → IsPlaced Query (length query) r
refused_query catalog query r (inl e) = too_large Query query r e
refused_query catalog query r (inr (text, is, fault)) = subst (λ (t : List ℕ). IsPlaced Query (length t) r) (sym (within_size Query query text is))
    (query_read catalog text r fault)

refused_texts : (schema query : List ℕ) (r : Refusal) → IsTextsDue schema query (Err r) → NamesPart (of_role (Some schema) (Some query) None) r
refused_texts schema query r (inl fault) = schema_part schema (Some query) None r (refused_schema schema r fault)
refused_texts schema query r (inr (catalog, e, inl fault)) = query_part (Some schema) None query r (refused_query catalog query r fault)
refused_texts schema query r (inr (catalog, e, inr (checked, k, other))) = absurd cc

pub stopped_texts : (schema query : List ℕ) (r : Result (List ℕ) (Stop Refusal)) → IfErr r (λ stop. IsStopOf (IsTextsDue schema query) stop)
    → IfErr r (λ stop. StopNamesPart (of_role (Some schema) (Some query) None) stop)
stopped_texts schema query (Ok text) h = tt
stopped_texts schema query (Err (s.Refused refused)) h = refused_texts schema query refused h
stopped_texts schema query (Err s.NoMemory) h = tt
