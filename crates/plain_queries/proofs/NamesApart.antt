-- The columns of a query whose names have no fault have different names.
use Rattle.std.proofs.Common.{◌≡◌, ℕ, true, false, ◌||◌, List, [], ◌∷◌, ◌++◌, map, refl, sym, ap, ◌∙◌, subst, Option, None, Some, is_some, bytes_eq, option_to_list, inl, inr}
use Rattle.std.specs.List.{flat_map}
use Rattle.std.proofs.lemmas.List.{map-append}
use Rattle.std.proofs.lemmas.List.Folds.{list_any-append}
use Rattle.std.proofs.lemmas.Slice.Eq.{bytes_eq-Decides}
use Rattle.multisets.specs.Bags.{IsIn, IsWithoutRepeats}
use Rattle.pgq_base.specs.declared.code.Code.{Code}
use Rattle.pgq_base.specs.declared.code.Code.TheVariants as code
use Rattle.graph_ast.specs.declared.schema.Named.{Named}
use Rattle.graph_ast.specs.declared.query.Item.{Item}
use Rattle.graph_ast.specs.declared.catalog.Catalog.{Catalog}
use Rattle.graph_ast.specs.declared.catalog.Graph.{Graph}
use Rattle.graph_ast.specs.declared.checked.Output.{Output}
use Rattle.first_faults.specs.Faults.{when}
use Rattle.first_faults.specs.Names.{is_among, repeated_behind}
use Rattle.pattern_check.specs.NameRules.{column_name, column_names, duplicate_column_names, unnamed_column, column_faults}
use Rattle.pattern_check.specs.Checked.{name_of, output}
use Rattle.pattern_check.proofs.LowerableClasses.{kept_when}
use Rattle.pattern_check.proofs.Faultless.{left_none, right_none, not_when, or_left, or_right}

abbrev text_of : Named → List ℕ
text_of name = name.name

abbrev texts : List Named → List (List ℕ)
texts = map text_of

-- ---- names without a repeat

same_bytes : (name : List ℕ) → bytes_eq name name ≡ true
same_bytes name = (bytes_eq-Decides name name).1 refl

-- no name of the list is one of those before it
abbrev AreNew : List Named → List Named → Type 0
AreNew earlier names = (text : List ℕ) → IsIn text (texts names) → is_among text earlier ≡ false

record IsApart (earlier names : List Named) : Type 0 where
  once : IsWithoutRepeats (texts names)
  new : AreNew earlier names

-- what is not among some and one more is not among them, and differs from that one
among_more : (text : List ℕ) (earlier : List Named) (own : Named) → is_among text (earlier ++ own ∷ []) ≡ false
    → (is_among text earlier ≡ false) × (bytes_eq own.name text ≡ false)
among_more text earlier own h =
    let apart : (is_among text earlier || (bytes_eq own.name text || false)) ≡ false =
    sym (list_any-append (λ (other : Named). bytes_eq other.name text) earlier (own ∷ [])) ∙ h in (
      or_left (is_among text earlier) (bytes_eq own.name text || false) apart,
      or_left (bytes_eq own.name text) false (or_right (is_among text earlier) (bytes_eq own.name text || false) apart),
    )

apart : (code : Code) (earlier names : List Named) → repeated_behind code earlier names ≡ [] → IsApart earlier names
apart code earlier [] h = record { once = tt; new = λ text there. absurd there }
apart code earlier (own ∷ names) h =
    let here : is_among own.name earlier ≡ false =
    not_when (is_among own.name earlier) code own.span (left_none (when (is_among own.name earlier) code own.span) (repeated_behind code (earlier ++ own ∷ []) names) h) in
    let rest = apart code (earlier ++ own ∷ []) names (right_none (when (is_among own.name earlier) code own.span) (repeated_behind code (earlier ++ own ∷ []) names) h) in record {
      once = (differs (rest.new), rest.once);
      new = is_new here rest.new;
    }
  where
    differs : AreNew (earlier ++ own ∷ []) names → IsIn own.name (texts names) → ⊥
    differs new there = let other = (among_more own.name earlier own (new own.name there)).1 in let itself = same_bytes own.name in absurd cc

    is_new : is_among own.name earlier ≡ false → AreNew (earlier ++ own ∷ []) names → AreNew earlier (own ∷ names)
    is_new here new text (inl e) = subst (λ t. is_among t earlier ≡ false) e here
    is_new here new text (inr there) = (among_more text earlier own (new text there)).0

-- ---- columns

one_name : (o : Option Named) → is_some o ≡ true → texts (option_to_list o) ≡ name_of o ∷ []
one_name None h = absurd cc
one_name (Some name) h = refl

abbrev own_name : Output → List ℕ
own_name own = own.name

module _ (catalog : Catalog) (graph : Graph) where
  names_are : (columns : List Item) → flat_map unnamed_column columns ≡ [] → texts (flat_map column_names columns) ≡ map own_name (map (output catalog graph) columns)
  names_are [] h = refl
  names_are (item ∷ columns) h =
      let none : unnamed_column item ≡ [] = left_none (unnamed_column item) (flat_map unnamed_column columns) h in
      let named : is_some (column_name item) ≡ true = kept_when (is_some (column_name item)) code.UnnamedColumn item.span none in
      map-append text_of (column_names item) (flat_map column_names columns)
      ∙ ap (λ l. l ++ texts (flat_map column_names columns)) (one_name (column_name item) named)
      ∙ ap (λ l. name_of (column_name item) ∷ l) (names_are columns (right_none (unnamed_column item) (flat_map unnamed_column columns) h))

  pub columns_apart : (columns : List Item) → column_faults columns ≡ [] → IsWithoutRepeats (map own_name (map (output catalog graph) columns))
  unfolding column_faults
  columns_apart columns h =
      subst IsWithoutRepeats (names_are columns (right_none (duplicate_column_names columns) (flat_map unnamed_column columns) h))
      (apart code.DuplicateColumnName [] (flat_map column_names columns) (left_none (duplicate_column_names columns) (flat_map unnamed_column columns) h)).once
