-- The same of whole texts: a text without a fault writes down a sound query, and a text that writes down a sound query has no fault.
use Rattle.std.proofs.Common.{◌≡◌, ℕ, suc, ◌==◌, Bool, true, false, not, ◌&&◌, cond, List, [], ◌∷◌, ◌++◌, map, length, refl, sym, ap, ◌∙◌, Option, None, Some, arith}
use Rattle.std.specs.List.{list_all, flat_map}
use Rattle.std.proofs.lemmas.Bool.Decides.{nat_tests}
use Rattle.pgq_base.specs.declared.value.Class.{Class}
use Rattle.pgq_base.specs.declared.code.Code.TheVariants as code
use Rattle.expr_tree.specs.Classes.{same_class}
use Rattle.graph_ast.specs.declared.catalog.Catalog.{Catalog}
use Rattle.condition_grammar.specs.Spans.{span_of}
use Rattle.sql_algebra.specs.declared.tree.Select.{Select}
use Rattle.sql_algebra.specs.declared.tree.Conjunct.{Conjunct}
use Rattle.sql_algebra.specs.declared.text.SqlText.{SqlText}
use Rattle.sql_algebra.specs.declared.text.SelectText.{SelectText, out-SelectText, fold-roll-SelectText}
use Rattle.sql_algebra.specs.declared.text.ColumnText.{ColumnText}
use Rattle.sql_algebra.specs.Soundness as s
use Rattle.sql_algebra.specs.Soundness.{classes_of, same_classes, selects_agree, query_is_sound, IsSound}
use Rattle.first_faults.specs.declared.faults.Fault.{Fault}
use Rattle.first_faults.specs.Faults.{when, first_of}
use Rattle.sql_reader.specs.declared.phases.Phase.TheVariants.{Names, Types}
use Rattle.sql_reader.specs.Reaches.{Reach, reach_within}
use Rattle.sql_reader.specs.Types.{class_of_value}
use Rattle.sql_reader.specs.Phases.{select_faults, column_class, column_classes, differing_items, later_faults, united_faults, faults_in, or_then, first_fault}
use Rattle.sql_reader.specs.Queries as q
use Rattle.sql_reader.specs.Queries.{column_made, select_made, query_of}
use Rattle.sql_reader.specs.Shapes.{select_is_shaped, HasShape}
use Rattle.sql_reader.proofs.Clean.{no_fault, no_fault_append, no_fault_unless, no_fault_flat, none_first, first_none, and_true, Tells, tells_both, tells_all, tells_by}
use Rattle.sql_reader.proofs.Telling.{class_told}
use Rattle.sql_reader.proofs.TellingSelects.{select_told}

-- ---- the selects of a UNION ALL

next_length : (m n : ℕ) → (suc m == suc n) ≡ (m == n)
next_length m n = grind (arith, nat_tests)

no_length : (n : ℕ) → (0 == suc n) ≡ false
no_length n = grind (arith, nat_tests)

some_length : (n : ℕ) → (suc n == 0) ≡ false
some_length n = grind (arith, nat_tests)

module _ (catalog : Catalog) where
  later_classes : (select : SelectText) (classes : List Class) (columns : List ColumnText)
      → no_fault (cond (length classes == length columns) (differing_items catalog select classes columns) (when true code.ClassesDiffer select.word))
      ≡ same_classes classes (map (column_class catalog select) columns)
  later_classes select [] [] = refl
  later_classes select [] (c ∷ columns) = ap (λ b. no_fault (cond b [] (when true code.ClassesDiffer select.word))) (no_length (length columns))
  later_classes select (k ∷ classes) [] = ap (λ b. no_fault (cond b [] (when true code.ClassesDiffer select.word))) (some_length (length classes))
  later_classes select (k ∷ classes) (c ∷ columns) =
      let fault : List Fault = when (not (same_class k (column_class catalog select c))) code.ClassesDiffer (span_of c.value) in
      let rest : List Fault = differing_items catalog select classes columns in
      let wrong : List Fault = when true code.ClassesDiffer select.word in
      ap (λ b. no_fault (cond b (fault ++ rest) wrong)) (next_length (length classes) (length columns))
      ∙ by (length classes == length columns) fault rest wrong (same_class k (column_class catalog select c))
      (no_fault_unless (same_class k (column_class catalog select c)) code.ClassesDiffer (span_of c.value)) refl
      ∙ ap (λ b. same_class k (column_class catalog select c) && b) (later_classes select classes columns)
    where
      by : (b : Bool) (fault rest wrong : List Fault) (same : Bool) → no_fault fault ≡ same → no_fault wrong ≡ false → no_fault (cond b (fault ++ rest) wrong)
          ≡ (same && no_fault (cond b rest wrong))
      by true fault rest wrong same h g = no_fault_append fault rest ∙ ap (λ x. x && no_fault rest) h
      by false fault rest wrong true h g = refl
      by false fault rest wrong false h g = g

  made_columns : (t : SelectText) → (select_made catalog t []).columns ≡ map (column_made (reach_within catalog [] t.from)) t.columns
  made_columns t = ap (λ (f : Reach → Select). (f []).columns) (fold-roll-SelectText (Reach → Conjunct) (Reach → Select) q.conjunct_step (q.select_step catalog) (out-SelectText t))

  classes_made : (reach : Reach) (columns : List ColumnText) → classes_of (map (column_made reach) columns) ≡ map (λ (c : ColumnText). class_of_value reach c.value) columns
  classes_made reach [] = refl
  classes_made reach (c ∷ columns) =
      ap (λ k. k ∷ classes_of (map (column_made reach) columns)) (class_told reach c.value) ∙ ap (λ l. class_of_value reach c.value ∷ l) (classes_made reach columns)

  classes_are : (t : SelectText) → classes_of (select_made catalog t []).columns ≡ column_classes catalog t
  classes_are t = ap classes_of (made_columns t) ∙ classes_made (reach_within catalog [] t.from) t.columns

  later_told : (first : SelectText) (t : SelectText) → no_fault (later_faults catalog (column_classes catalog first) t)
      ≡ same_classes (classes_of (select_made catalog first []).columns) (classes_of (select_made catalog t []).columns)
  later_told first t =
      later_classes t (column_classes catalog first) t.columns
      ∙ ap (λ l. same_classes l (column_classes catalog t)) (sym (classes_are first)) ∙ ap (same_classes (classes_of (select_made catalog first []).columns)) (sym (classes_are t))

  all_later : (first : SelectText) (ts : List SelectText) → list_all (λ t. no_fault (later_faults catalog (column_classes catalog first) t)) ts
      ≡ list_all (λ (k : Select). same_classes (classes_of (select_made catalog first []).columns) (classes_of k.columns)) (map (λ t. select_made catalog t []) ts)
  all_later first [] = refl
  all_later first (t ∷ ts) =
      ap (λ b. b && list_all (λ t. no_fault (later_faults catalog (column_classes catalog first) t)) ts) (later_told first t)
      ∙ ap (λ b. same_classes (classes_of (select_made catalog first []).columns) (classes_of (select_made catalog t []).columns) && b) (all_later first ts)

  united_told : (ts : List SelectText) → no_fault (united_faults catalog ts) ≡ selects_agree (map (λ t. select_made catalog t []) ts)
  united_told [] = refl
  united_told (first ∷ later) = no_fault_flat (later_faults catalog (column_classes catalog first)) later ∙ all_later first later

  agreed : (b : Bool) → Tells true b true b
  agreed b = record { there = λ p q r. q; names_hold = λ s. refl; types_hold = λ s. s; shape_holds = λ s. refl }

  text_told : (text : SqlText) → Tells (no_fault (faults_in Names catalog text)) (no_fault (faults_in Types catalog text)) (list_all select_is_shaped text.selects)
      (query_is_sound catalog (query_of catalog text))
  text_told text =
      let ts : List SelectText = text.selects in
      let names : SelectText → List Fault = λ t. select_faults Names catalog t [] in
      let types : SelectText → List Fault = λ t. select_faults Types catalog t [] in
      let agree : Bool = selects_agree (map (λ t. select_made catalog t []) ts) in
      tells_by _ _ _ _ _ _ _ _
      (no_fault_append (flat_map names ts) [] ∙ ap (λ b. b && true) (no_fault_flat names ts))
      (no_fault_append (flat_map types ts) (united_faults catalog ts) ∙ ap (λ b. b && no_fault (united_faults catalog ts)) (no_fault_flat types ts)
      ∙ ap (λ b. list_all (λ t. no_fault (types t)) ts && b) (united_told ts))
      (sym (and_true (list_all select_is_shaped ts)))
      refl
      (tells_both (list_all (λ t. no_fault (names t)) ts) (list_all (λ t. no_fault (types t)) ts) (list_all select_is_shaped ts)
      (list_all (λ (k : Select). s.select_is_sound catalog k []) (map (λ t. select_made catalog t []) ts)) true agree true agree
      (tells_all (λ t. no_fault (names t)) (λ t. no_fault (types t)) select_is_shaped (λ (k : Select). s.select_is_sound catalog k []) (λ t. select_made catalog t [])
      (λ t. select_told catalog t [] refl) ts)
      (agreed agree))

  neither : (a b : Option Fault) → or_then a b ≡ None → (a ≡ None) × (b ≡ None)
  neither None b h = (refl, h)
  neither (Some f) b h = absurd cc

  pub faultless_sound : (text : SqlText) → HasShape text → first_fault catalog text ≡ None → IsSound (query_of catalog text) catalog
  faultless_sound text shape none =
      let two = neither (first_of None (faults_in Names catalog text)) (first_of None (faults_in Types catalog text)) none in
      (text_told text).there (none_first (faults_in Names catalog text) two.0) (none_first (faults_in Types catalog text) two.1) shape

  pub sound_faultless : (text : SqlText) → IsSound (query_of catalog text) catalog → first_fault catalog text ≡ None
  sound_faultless text sound =
      ap (λ o. or_then o (first_of None (faults_in Types catalog text))) (first_none (faults_in Names catalog text) ((text_told text).names_hold sound))
      ∙ first_none (faults_in Types catalog text) ((text_told text).types_hold sound)
