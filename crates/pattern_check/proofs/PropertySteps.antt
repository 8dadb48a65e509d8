-- The properties of elements, found by name.
use Rattle.std.proofs.Common.{◌≡◌, ◌∙◌, ℕ, ◌+◌, ◌<◌, Bool, true, false, ◌||◌, cond, ap, sym, refl, List, [], ◌∷◌, ◌++◌, map, drop, length, get_or, append_assoc, is_some, Some}
use Rattle.std.proofs.Common.{bytes_eq}
use Rattle.std.specs.List.{flat_map, list_any}
use Rattle.std.proofs.lemmas.List.{drop_more}
use Rattle.graph_ast.specs.declared.catalog.Element.{Element}
use Rattle.graph_ast.specs.declared.catalog.EdgeElement.{EdgeElement}
use Rattle.graph_ast.specs.declared.catalog.Property.{Property}
use Rattle.graph_ast.specs.Lookups.{column_named}
use Rattle.first_faults.specs.Names.{has_text}
use Rattle.first_faults.proofs.Steps.{list_any_append}
use Rattle.pattern_check.specs.Graphs.{has_property}
use Rattle.pattern_check.specs.ByName.{property_names}
use Rattle.pattern_check.proofs.ScopeSteps.{given_more}

pub names_step : (done : List (List ℕ)) (xs : List Property) (i : ℕ) (x : Property) → i < length xs → x ≡ get_or xs i x →
    done ++ map (λ (p : Property). p.name) (drop i xs) ≡ (done ++ x.name ∷ []) ++ map (λ (p : Property). p.name) (drop (i + 1) xs)
names_step done xs i x within is =
    ap (λ l. done ++ map (λ (p : Property). p.name) l) (drop_more xs i x within)
    ∙ ap (λ (y : Property). done ++ y.name ∷ map (λ (p : Property). p.name) (drop (i + 1) xs)) (sym is)
    ∙ sym (append_assoc done (x.name ∷ []) (map (λ (p : Property). p.name) (drop (i + 1) xs)))

pub edges_step : (done : List (List ℕ)) (xs : List EdgeElement) (i : ℕ) (x : EdgeElement) → i < length xs → x ≡ get_or xs i x →
    done ++ flat_map property_names (map (λ (edge : EdgeElement). edge.element) (drop i xs)) ≡
    (done ++ property_names x.element) ++ flat_map property_names (map (λ (edge : EdgeElement). edge.element) (drop (i + 1) xs))
edges_step done xs i x within is = given_more property_names (λ (edge : EdgeElement). edge.element) done xs i x within is

named_column : (name : List ℕ) (properties : List Property) → has_text name (map (λ (p : Property). p.name) properties) ≡ is_some (column_named name properties)
named_column name [] = refl
named_column name (p ∷ properties) = go (bytes_eq p.name name) (named_column name properties)
  where
    go : (b : Bool) → has_text name (map (λ (q : Property). q.name) properties) ≡ is_some (column_named name properties) →
        (b || has_text name (map (λ (q : Property). q.name) properties)) ≡ is_some (cond b (Some p.column) (column_named name properties))
    go true rest = refl
    go false rest = rest

-- a name is one of the names of properties exactly where an element has the property
pub property_named : (name : List ℕ) (elements : List Element) → has_text name (flat_map property_names elements) ≡ list_any (has_property name) elements
property_named name [] = refl
property_named name (element ∷ elements) =
    list_any_append (λ other. bytes_eq other name) (property_names element) (flat_map property_names elements)
    ∙ ap (λ b. b || has_text name (flat_map property_names elements)) (named_column name element.properties)
    ∙ ap (λ b. has_property name element || b) (property_named name elements)
