-- What stands in the instance of some files.
use Rattle.std.proofs.Common.{◌≡◌, ℕ, zero, suc, ◌+◌, ◌<◌, ◌≤◌, Bool, true, false, cond, List, [], ◌∷◌, map, length, set, Option, None, Some, Result, Ok, Err, inl, inr, refl}
use Rattle.std.proofs.Common.{sym, ap, ◌∙◌, subst, arith, get_or-set_same, get_or-set_other}
use Rattle.std.specs.Prelude.{All, nat_le}
use Rattle.std.proofs.lemmas.List.{length-map, length-set}
use Rattle.std.proofs.lemmas.List.Sums.{sum_by-cons}
use Rattle.std.proofs.lemmas.Bool.Decides.{nat_tests}
use Rattle.multisets.specs.Bags.{IsIn, IsWithoutRepeats}
use Rattle.pgq_base.specs.declared.refusal.Refusal.{Refusal}
use Rattle.pgq_base.specs.Instances.{TableRows, InstanceRows, rows_at}
use Rattle.graph_ast.specs.declared.catalog.Catalog.{Catalog}
use Rattle.graph_ast.specs.declared.catalog.Table.{Table}
use Rattle.graph_ast.specs.Fits.{no_rows, without_rows}
use Rattle.graph_ast.specs.Lookups.{table_at}
use Rattle.csv_tables.specs.Constraints.{instance_refusal}
use Rattle.csv_tables.specs.Reading.{table_rows}
use Rattle.table_files.specs.declared.files.TableText.{TableText}
use Rattle.table_files.specs.TableFiles.{RowsRead, rows_read, none_read, most_bytes, too_large, added, file_read, and_then, files_read, unless, instance_checked, instance_due}
use Rattle.table_files.specs.TableFiles.{tables_in, bytes_in, IsGivenBy}

-- ---- one file

within_size : (n : ℕ) → nat_le n most_bytes ≡ true → n ≤ most_bytes
within_size n h = grind (arith, nat_tests)

record IsRead (catalog : Catalog) (read : RowsRead) (place : ℕ) (bytes : List ℕ) (more : RowsRead) : Type 0 where
  rows : TableRows
  is : table_rows bytes (table_at catalog place) ≡ Ok rows
  tables : more.tables ≡ set read.tables place rows
  bytes_now : more.bytes ≡ read.bytes + length bytes
  few : read.bytes + length bytes ≤ most_bytes

module _ (catalog : Catalog) (read : RowsRead) (place : ℕ) (bytes : List ℕ) (more : RowsRead) where
  of_rows : (r : Result TableRows Refusal) → table_rows bytes (table_at catalog place) ≡ r → read.bytes + length bytes ≤ most_bytes → added read place (length bytes) r
      ≡ Ok more → IsRead catalog read place bytes more
  of_rows (Err refusal) is few h = absurd cc
  of_rows (Ok rows) is few h =
      let same : rows_read (set read.tables place rows) (read.bytes + length bytes) ≡ more = cc in
      record { rows = rows; is = is; tables = ap (λ m. m.tables) (sym same); bytes_now = ap (λ m. m.bytes) (sym same); few = few }

  one_read : file_read catalog read place bytes ≡ Ok more → IsRead catalog read place bytes more
  one_read h = by (nat_le (read.bytes + length bytes) most_bytes) refl h
    where
      by : (t : Bool) → nat_le (read.bytes + length bytes) most_bytes ≡ t
          → cond t (added read place (length bytes) (table_rows bytes (table_at catalog place))) (Err (too_large (table_at catalog place).name)) ≡ Ok more
          → IsRead catalog read place bytes more
      by true e h = of_rows (table_rows bytes (table_at catalog place)) refl (within_size (read.bytes + length bytes) e) h
      by false e h = absurd cc

-- ---- all files

after_first : {A B E : Type 0} (r : Result A E) (step : A → Result B E) (b : B) → and_then r step ≡ Ok b → (a : A) × (r ≡ Ok a) × (step a ≡ Ok b)
after_first (Ok a) step b h = (a, refl, h)
after_first (Err e) step b h = absurd cc

-- what was read and is in the instance that is left in the end
record AreRead (catalog : Catalog) (read : RowsRead) (texts : List TableText) (done : RowsRead) : Type 0 where
  tables : length done.tables ≡ length read.tables
  given : (text : TableText) → IsIn text texts → table_rows text.bytes (table_at catalog text.table) ≡ Ok (rows_at done.tables text.table)
  others : (place : ℕ) → (IsIn place (tables_in texts) → ⊥) → rows_at done.tables place ≡ rows_at read.tables place
  bytes : done.bytes ≡ read.bytes + bytes_in texts
  few : read.bytes ≤ most_bytes → done.bytes ≤ most_bytes

module _ (catalog : Catalog) where
  joined : (read more done : RowsRead) (text : TableText) (texts : List TableText) → text.table < length read.tables → (IsIn text.table (tables_in texts) → ⊥)
      → IsRead catalog read text.table text.bytes more → AreRead catalog more texts done → AreRead catalog read (text ∷ texts) done
  joined read more done text texts within alone one rest = record {
    tables = rest.tables ∙ ap length one.tables ∙ length-set read.tables text.table one.rows;
    given = given;
    others = others;
    bytes = counted;
    few = λ _. rest.few (subst (λ n. n ≤ most_bytes) (sym one.bytes_now) one.few);
  }
    where
      here : rows_at done.tables text.table ≡ one.rows
      here = rest.others text.table alone ∙ ap (λ ts. rows_at ts text.table) one.tables ∙ get_or-set_same read.tables text.table one.rows [] within

      given : (other : TableText) → IsIn other (text ∷ texts) → table_rows other.bytes (table_at catalog other.table) ≡ Ok (rows_at done.tables other.table)
      given other (inl same) = subst (λ (t : TableText). table_rows t.bytes (table_at catalog t.table) ≡ Ok (rows_at done.tables t.table)) same (one.is ∙ ap Ok (sym here))
      given other (inr there) = rest.given other there

      others : (place : ℕ) → (IsIn place (tables_in (text ∷ texts)) → ⊥) → rows_at done.tables place ≡ rows_at read.tables place
      others place none =
          rest.others place (λ there. none (inr there)) ∙ ap (λ ts. rows_at ts place) one.tables
          ∙ get_or-set_other read.tables text.table place one.rows [] (λ same. none (inl (sym same)))

      counted : done.bytes ≡ read.bytes + bytes_in (text ∷ texts)
      counted =
          let all : bytes_in (text ∷ texts) ≡ length text.bytes + bytes_in texts = sum_by-cons (λ (t : TableText). length t.bytes) text texts in
          let after : done.bytes ≡ more.bytes + bytes_in texts = rest.bytes in
          let now : more.bytes ≡ read.bytes + length text.bytes = one.bytes_now in
          omega arith

  all_read : (read done : RowsRead) (texts : List TableText) → ((text : TableText) → IsIn text texts → text.table < length read.tables) → IsWithoutRepeats (tables_in texts)
      → files_read catalog read texts ≡ Ok done → AreRead catalog read texts done
  all_read read done [] within apart h =
      let same : read ≡ done = cc in
      subst (AreRead catalog read []) same (record { tables = refl; given = λ text none. absurd none; others = λ place none. refl; bytes = omega arith; few = λ few. few })
  all_read read done (text ∷ texts) within apart h =
      let (more, first, rest) = after_first (file_read catalog read text.table text.bytes) (λ more. files_read catalog more texts) done h in
      let one = one_read catalog read text.table text.bytes more first in
      let size : length more.tables ≡ length read.tables = ap length one.tables ∙ length-set read.tables text.table one.rows in
      let later = all_read more done texts (λ other there. subst (λ n. other.table < n) (sym size) (within other (inr there))) apart.1 rest in
      joined read more done text texts (within text (inl refl)) apart.0 one later

-- ---- the instance

at_nothing : (tables : List Table) (place : ℕ) → rows_at (map no_rows tables) place ≡ []
at_nothing [] place = refl
at_nothing (table ∷ tables) zero = refl
at_nothing (table ∷ tables) (suc place) = at_nothing tables place

unless_is : {A : Type 0} (o : Option Refusal) (a b : A) → unless o a ≡ Ok b → a ≡ b
unless_is None a b h = cc
unless_is (Some refusal) a b h = absurd cc

each_in : {X : Type 0} (P : X → Type 0) (xs : List X) → All P xs → (x : X) → IsIn x xs → P x
each_in P [] all x h = absurd h
each_in P (y ∷ xs) all x (inl same) = subst P same (all 0 y (omega arith))
each_in P (y ∷ xs) all x (inr h) = each_in P xs (λ k d within. all (suc k) d (omega arith)) x h

pub given_by : (catalog : Catalog) (texts : List TableText) (instance : InstanceRows) → All (λ text. text.table < length catalog.tables) texts → IsWithoutRepeats (tables_in texts)
    → instance_due catalog texts ≡ Ok instance → IsGivenBy catalog texts instance
given_by catalog texts instance places apart h =
    let (done, read, checked) = after_first (files_read catalog (none_read catalog) texts) (λ read. instance_checked catalog read.tables) instance h in
    let same : done.tables ≡ instance = unless_is (instance_refusal catalog done.tables) done.tables instance checked in
    let size : length (without_rows catalog) ≡ length catalog.tables = length-map catalog.tables no_rows in
    let are = all_read catalog (none_read catalog) done texts
    (λ text there. subst (λ n. text.table < n) (sym size) (each_in (λ (t : TableText). t.table < length catalog.tables) texts places text there)) apart read in
    subst (IsGivenBy catalog texts) same (record {
      tables = are.tables ∙ size;
      given = are.given;
      others = λ place none. are.others place none ∙ at_nothing catalog.tables place;
      few = (let total : done.bytes ≡ 0 + bytes_in texts = are.bytes in let most : done.bytes ≤ most_bytes = are.few (omega arith) in omega arith);
    })
