-- The expressions of a query that is to be written as SQL are sound.
use Rattle.std.proofs.Common.{◌≡◌, ℕ, Bool, true, false, ◌||◌, cond, List, [], ◌∷◌, is_some, refl, sym, ap, ◌∙◌, inl, inr, Option, None, Some, bytes_eq, true≢false}
use Rattle.std.specs.List.{list_any}
use Rattle.std.proofs.lemmas.Slice.Eq.{bytes_eq-Decides}
use Rattle.expr_tree.specs.Leaves.{leaves_in}
use Rattle.expr_tree.proofs.Folds.{each_implies}
use Rattle.multisets.specs.Bags.{IsIn}
use Rattle.graph_ast.specs.declared.catalog.Catalog.{Catalog}
use Rattle.graph_ast.specs.declared.catalog.Element.{Element}
use Rattle.graph_ast.specs.declared.catalog.Property.{Property}
use Rattle.graph_ast.specs.declared.checked.CheckedQuery.{CheckedQuery}
use Rattle.graph_ast.specs.declared.checked.Output.{Output}
use Rattle.graph_ast.specs.declared.checked.PropertyLeaf.{PropertyLeaf}
use Rattle.graph_ast.specs.Lookups.{table_at, column_at, column_named, column_of, elements_of, graph_at}
use Rattle.graph_ast.specs.Types.{class_of_type}
use Rattle.graph_meaning.specs.Choices.{Condition}
use Rattle.pattern_check.specs.Graphs.{has_property, class_in_element, class_or, class_among}
use Rattle.pattern_check.specs.Lowerable.{IsSoundLeaf, conditions_of}
use Rattle.pattern_check.specs.Lowerable as checked
use Rattle.path_lowering.specs.Sound.{HasItsClass, IsSoundExpression, IsSoundCondition, IsSoundQuery}
use Rattle.query_lowering.specs.Translatable.{IsTranslatable}
use Rattle.query_lowering.proofs.Conditions.{of_member, choice_condition, last_condition}
use Rattle.query_lowering.proofs.Numbered.{graph_is_valid}

-- the property of a name
named_property : (name : List ℕ) (properties : List Property) (column : ℕ) → column_named name properties ≡ Some column
    → (property : Property) × IsIn property properties × (property.name ≡ name) × (property.column ≡ column)
named_property name [] column h = cc
named_property name (property ∷ properties) column h = go (bytes_eq property.name name) refl h (named_property name properties column)
  where
    go : (b : Bool) → bytes_eq property.name name ≡ b → cond b (Some property.column) (column_named name properties) ≡ Some column
        → (column_named name properties ≡ Some column → (p : Property) × IsIn p properties × (p.name ≡ name) × (p.column ≡ column))
        → (p : Property) × IsIn p (property ∷ properties) × (p.name ≡ name) × (p.column ≡ column)
    go true e k more = (property, inl refl, (bytes_eq-Decides property.name name).0 e, cc)
    go false e k more = let m = more k in (m.0, inr m.1, m.2, m.3)

-- a property of a name, whose column has the class that the name has among some elements
record Found (catalog : Catalog) (name : List ℕ) (elements : List Element) : Type 0 where
  element : Element
  property : Property
  there : IsIn element elements
  has : IsIn property element.properties
  named : property.name ≡ name
  class : class_of_type (column_at (table_at catalog element.table) property.column).kind ≡ class_among catalog name elements

property_found : (catalog : Catalog) (name : List ℕ) (elements : List Element) → list_any (has_property name) elements ≡ true → Found catalog name elements
property_found catalog name [] known = absurd (true≢false (sym known))
property_found catalog name (element ∷ elements) known = go (column_of element name) refl known (property_found catalog name elements)
  where
    go : (o : Option ℕ) → column_of element name ≡ o → (is_some o || list_any (has_property name) elements) ≡ true
        → (list_any (has_property name) elements ≡ true → Found catalog name elements) → Found catalog name (element ∷ elements)
    go None e k more =
        let found = more k in record {
          element = found.element;
          property = found.property;
          there = inr found.there;
          has = found.has;
          named = found.named;
          class = found.class ∙ sym (ap (λ o. class_or catalog element o (class_among catalog name elements)) e);
        }
    go (Some column) e k more =
        let own = named_property name element.properties column e in record {
          element = element;
          property = own.0;
          there = inl refl;
          has = own.1;
          named = own.2;
          class = ap (class_in_element catalog element) own.3 ∙ sym (ap (λ o. class_or catalog element o (class_among catalog name elements)) e);
        }

module _ (catalog : Catalog) (query : CheckedQuery) (ok : IsTranslatable catalog query) where
  -- the class of one property of the leaf's name is that of all
  leaf_has : (leaf : PropertyLeaf) → IsSoundLeaf catalog query leaf → HasItsClass catalog (graph_at catalog query.graph) leaf
  leaf_has leaf sound =
      let found = property_found catalog leaf.property (elements_of (graph_at catalog query.graph)) sound.known in
      λ other own there has named.
      (graph_is_valid catalog query ok).property_classes other found.element own found.property there found.there has found.has (named ∙ sym found.named)
      ∙ found.class ∙ sym sound.class

  sound_expression : (e : Condition) → checked.IsSoundExpression catalog query e → IsSoundExpression catalog (graph_at catalog query.graph) e
  sound_expression e sound = record {
    leaves = each_implies (IsSoundLeaf catalog query) (HasItsClass catalog (graph_at catalog query.graph)) leaf_has (leaves_in e) sound.leaves;
    well_classed = sound.well_classed;
  }

  sound_condition : (c : Condition) → IsIn c (conditions_of query) → IsSoundCondition catalog (graph_at catalog query.graph) c
  sound_condition c h =
      let own = of_member (checked.IsSoundCondition catalog query) (conditions_of query) ok.lowerable.conditions c h in
      record { sound = sound_expression c own.sound; truth = own.truth }

  pub sound_query : IsSoundQuery catalog (graph_at catalog query.graph) query
  sound_query = record {
    conditions = λ path there choice chosen scoped h. sound_condition scoped.condition (choice_condition query path there choice scoped h);
    condition = λ c e. sound_condition c (last_condition query c e);
    columns = λ output h. sound_expression output.value
        (of_member (λ (o : Output). checked.IsSoundExpression catalog query o.value) query.columns ok.lowerable.columns output h);
    names = ok.apart;
  }
