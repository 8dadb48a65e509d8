-- The class of a property, looked for in one element after another.
use Rattle.std.proofs.Common.{◌≡◌, ℕ, zero, suc, ◌+◌, ◌<◌, ap, sym, ◌∙◌, refl, List, [], ◌∷◌, ◌++◌, length, get_or, drop, map, Option, None, Some, option_map, unwrap_or}
use Rattle.std.proofs.Common.{slice_get, slice_index_or}
use Rattle.std.proofs.lemmas.List.{drop_more}
use Rattle.pgq_base.specs.declared.value.Class.{Class}
use Rattle.graph_ast.specs.declared.catalog.Catalog.{Catalog}
use Rattle.graph_ast.specs.declared.catalog.Element.{Element}
use Rattle.graph_ast.specs.declared.catalog.EdgeElement.{EdgeElement}
use Rattle.graph_ast.specs.Lookups.{column_of}
use Rattle.pattern_check.specs.Graphs.{class_in_element, class_or, class_among}

at_get : {X : Type 0} (xs : List X) (i : ℕ) (d : X) → slice_index_or xs i d ≡ unwrap_or (slice_get xs i) d
at_get [] i d = refl
at_get (x ∷ xs) zero d = refl
at_get (x ∷ xs) (suc i) d = at_get xs i d

pub at_missing : {X : Type 0} (xs : List X) (i : ℕ) (d : X) → slice_get xs i ≡ None → slice_index_or xs i d ≡ d
at_missing xs i d e = at_get xs i d ∙ ap (λ o. unwrap_or o d) e

pub at_found : {X : Type 0} (xs : List X) (i : ℕ) (d x : X) → slice_get xs i ≡ Some x → slice_index_or xs i d ≡ x
at_found xs i d x e = at_get xs i d ∙ ap (λ o. unwrap_or o d) e

class_here : (catalog : Catalog) (element : Element) (column : Option ℕ) (other : Class) →
    class_or catalog element column other ≡ unwrap_or (option_map (class_in_element catalog element) column) other
class_here catalog element None other = refl
class_here catalog element (Some column) other = refl

pub edges_on : (catalog : Catalog) (property : List ℕ) (xs : List EdgeElement) (i : ℕ) (x : EdgeElement) (here : Option Class) → i < length xs → x ≡ get_or xs i x →
    here ≡ option_map (class_in_element catalog x.element) (column_of x.element property) →
    class_among catalog property (map (λ (edge : EdgeElement). edge.element) (drop i xs)) ≡
    unwrap_or here (class_among catalog property (map (λ (edge : EdgeElement). edge.element) (drop (i + 1) xs)))
edges_on catalog property xs i x here within is h =
    let rest = class_among catalog property (map (λ (edge : EdgeElement). edge.element) (drop (i + 1) xs)) in
    ap (λ l. class_among catalog property (map (λ (edge : EdgeElement). edge.element) l)) (drop_more xs i x within)
    ∙ ap (λ (y : EdgeElement). class_or catalog y.element (column_of y.element property) rest) (sym is)
    ∙ class_here catalog x.element (column_of x.element property) rest
    ∙ ap (λ o. unwrap_or o rest) (sym h)

pub vertices_on : (catalog : Catalog) (property : List ℕ) (others xs : List Element) (i : ℕ) (x : Element) (here : Option Class) → i < length xs → x ≡ get_or xs i x →
    here ≡ option_map (class_in_element catalog x) (column_of x property) →
    class_among catalog property (drop i xs ++ others) ≡ unwrap_or here (class_among catalog property (drop (i + 1) xs ++ others))
vertices_on catalog property others xs i x here within is h =
    let rest = class_among catalog property (drop (i + 1) xs ++ others) in
    ap (λ l. class_among catalog property (l ++ others)) (drop_more xs i x within)
    ∙ ap (λ (y : Element). class_or catalog y (column_of y property) rest) (sym is)
    ∙ class_here catalog x (column_of x property) rest
    ∙ ap (λ o. unwrap_or o rest) (sym h)
