-- What is known of names, walked over one after another.
use Rattle.std.proofs.Common.{◌≡◌, ℕ, ◌+◌, ◌<◌, ◌≤◌, Bool, true, ◌&&◌, List, length, get_or, drop, sym, ap, ◌∙◌}
use Rattle.std.specs.Str.{IsUtf8}
use Rattle.std.specs.List.{list_all}
use Rattle.std.proofs.lemmas.Bool.{le-leb}
use Rattle.std.proofs.lemmas.List.{drop_more}
use Rattle.std.proofs.lemmas.Str.{is_utf8-from_IsUtf8}
use Rattle.graph_ast.specs.declared.catalog.Table.{Table}
use Rattle.graph_meaning.proofs.Members.{both_true}
use Rattle.sql_algebra.specs.Printable.{is_name}
use Rattle.query_lowering.specs.Names.{columns_are_named, is_named_table}

pub name_fits : (bytes : List ℕ) → 1 ≤ length bytes → length bytes ≤ 128 → IsUtf8 bytes → is_name bytes ≡ true
name_fits bytes least most utf8 = both_true _ _ (le-leb 1 (length bytes) least) (both_true _ _ (le-leb (length bytes) 128 most) (is_utf8-from_IsUtf8 bytes utf8))

pub table_passes : (table : Table) → is_name table.name ≡ true → columns_are_named table.columns ≡ true → is_named_table table ≡ true
table_passes table named columns = both_true _ _ named columns

-- a test of all from a place on, one item further
pub next_passes : {X : Type 0} (p : X → Bool) (xs : List X) (i : ℕ) (x : X) → i < length xs → x ≡ get_or xs i x → p x ≡ true → list_all p (drop i xs) ≡ list_all p xs
    → list_all p (drop (i + 1) xs) ≡ list_all p xs
next_passes p xs i x within is passes so_far =
    ap (λ b. b && list_all p (drop (i + 1) xs)) (sym (ap p (sym is) ∙ passes)) ∙ sym (ap (list_all p) (drop_more xs i x within)) ∙ so_far
