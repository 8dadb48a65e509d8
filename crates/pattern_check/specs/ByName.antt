-- What is asked of some declarations by name.
use Rattle.std.specs.Prelude.{◌≡◌, ℕ, Bool, true, false, ◌&&◌, ◌||◌, not, cond, List, [], ◌∷◌, map, flat_map, Option, None, Some}
use Rattle.std.specs.List.{list_any, list_all}
use Rattle.graph_ast.specs.declared.catalog.Graph.{Graph}
use Rattle.graph_ast.specs.declared.catalog.Element.{Element}
use Rattle.graph_ast.specs.declared.catalog.Property.{Property}
use Rattle.pattern_check.specs.declared.mentions.Mention.{Mention}
use Rattle.pattern_check.specs.Graphs.{elements_of_kind, has_property}
use Rattle.pattern_check.specs.Scopes.{Kind, same_kind, Declaration, declares}

-- the names of those of which a test holds
abbrev pub names_where : (Declaration → Bool) → List Declaration → List (List ℕ)
names_where holds all = flat_map (λ (declaration : Declaration). cond (holds declaration) (declaration.variable.name ∷ []) []) all

abbrev pub any : Declaration → Bool
any declaration = true

abbrev pub in_group : Declaration → Bool
in_group declaration = declaration.place.quantified

abbrev pub of_kind : Kind → Declaration → Bool
of_kind kind declaration = same_kind declaration.kind kind

abbrev pub group_of_kind : Kind → Declaration → Bool
group_of_kind kind declaration = same_kind declaration.kind kind && declaration.place.quantified

-- what holds of the variables of the first holds of those of the second, and the other way round
abbrev pub HaveVariables : List Mention → List Declaration → Type 0
HaveVariables firsts all =
    (p : List ℕ → Bool) → list_all (λ (m : Mention). p m.variable.now.name) firsts ≡ list_all (λ (declaration : Declaration). p declaration.variable.name) all

-- the variable is declared with the other kind
abbrev pub has_other_kind : Declaration → List Declaration → Bool
has_other_kind later all = list_any (λ (earlier : Declaration). declares later.variable.name earlier && not (same_kind earlier.kind later.kind)) all

-- the variable is declared with the same kind, and one of the two is quantified
abbrev pub has_same_kind : Declaration → List Declaration → Bool
has_same_kind later all =
    list_any (λ (earlier : Declaration).
    declares later.variable.name earlier && (same_kind earlier.kind later.kind && (earlier.place.quantified || later.place.quantified))) all

-- the names of an element's properties
abbrev pub property_names : Element → List (List ℕ)
property_names element = map (λ (property : Property). property.name) element.properties

-- no element of the kind, if there is one, has the property
abbrev pub lacks : Graph → Option Kind → List ℕ → Bool
lacks graph None property = false
lacks graph (Some kind) property = not (list_any (has_property property) (elements_of_kind graph kind))
