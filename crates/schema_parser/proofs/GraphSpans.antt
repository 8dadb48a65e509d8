-- The spans of a schema's tree lie in the text.
use Rattle.std.proofs.Common.{subst, ℕ, Option, Some, None, List}
use Rattle.std.specs.List.{AllByRecursion}
use Rattle.pgq_base.specs.declared.refusal.Span.{Span}
use Rattle.sql_lexer.specs.declared.token.Token.{Token}
use Rattle.sql_lexer.specs.Texts.{AreInOrder}
use Rattle.graph_ast.specs.declared.schema.Named.{Named}
use Rattle.graph_ast.specs.declared.schema.SchemaTree.{SchemaTree}
use Rattle.graph_ast.specs.declared.schema.KeyDef.{KeyDef}
use Rattle.graph_ast.specs.declared.schema.EdgeDef.{EdgeDef}
use Rattle.graph_ast.specs.declared.schema.PropertiesDef.{PropertiesDef}
use Rattle.graph_ast.specs.Spans.{LiesIn, NameHas, NamesHave, GivenNameHas, KeyHas, PropertyHas, PropertiesHave, LabelHas, ElementHas, EndHas, EdgeHas, GraphHas, StatementHas}
use Rattle.graph_ast.specs.Spans.{EachSpanHas}
use Rattle.token_grammar.specs.Rules.Rule.{one}
use Rattle.token_marks.specs.declared.mark.Mark.TheVariants as m
use Rattle.token_reading.specs.Tokens.{named}
use Rattle.schema_parser.specs.declared.labels.Heading.{Heading}
use Rattle.schema_parser.specs.declared.elements.Head.{Head}
use Rattle.schema_parser.specs.declared.elements.Ends.{Ends}
use Rattle.schema_parser.specs.Tables.{Inside}
use Rattle.schema_parser.specs.Graphs.{property, exception, chosen, properties, all_unless, heading, label, OfElement, labels_of, label_list, written_labels, labels, key, alias}
use Rattle.schema_parser.specs.Graphs.{alias_or, head, own_name, element_of, element, is_end_name, end as an_end, ends, edge, vertices, edges, edges_or_none, graph}
use Rattle.schema_parser.specs.Graphs.{statement as a_statement, schema}
use Rattle.schema_parser.specs.Outcomes.{SpellsSchema}
use Rattle.schema_parser.proofs.Placed.{IfGiven, Gives, any_gives, one_gives, mapped_gives, seq_gives, either_gives, opt_gives, many_gives, list_gives, trailing_gives}
use Rattle.schema_parser.proofs.TypeSpans.{two_lie}
use Rattle.schema_parser.proofs.TableSpans.{parens_give, the_lies, name_lies, columns_lie, listed_lie, table_lies}

module _ (end : ℕ) where
  abbrev Here : Span → Type 0
  Here = LiesIn end

  given_lies : (name : Option Named) → IfGiven (NameHas Here) name → GivenNameHas Here name
  given_lies None h = tt
  given_lies (Some n) h = h

  property_lies : Gives end property (PropertyHas Here)
  unfolding property
  property_lies = mapped_gives end (seq_gives end (name_lies end) (opt_gives end (mapped_gives end (seq_gives end (any_gives end) (name_lies end)) (λ a h. h.1))))
      (λ a h. (h.0, given_lies a.1 h.1))

  exception_lies : Gives end exception (NamesHave Here)
  unfolding exception
  exception_lies = mapped_gives end (opt_gives end (mapped_gives end (seq_gives end (any_gives end) (columns_lie end)) (λ a h. h.1))) (listed_lie end)

  chosen_lies : Gives end chosen (PropertiesHave Here)
  unfolding chosen
  chosen_lies = either_gives end
      (mapped_gives end (seq_gives end (any_gives end) (seq_gives end (any_gives end) (seq_gives end (any_gives end) exception_lies))) (λ a h. h.1.1.1))
      (mapped_gives end (parens_give end Inside.property_list (AllByRecursion (PropertyHas Here)) (list_gives end property_lies)) (λ a h. h))

  properties_lie : Gives end properties (PropertiesHave Here)
  unfolding properties
  properties_lie = either_gives end (mapped_gives end (any_gives end) (λ a h. tt)) (mapped_gives end (seq_gives end (any_gives end) chosen_lies) (λ a h. h.1))

  unless_lie : (p : Option PropertiesDef) → IfGiven (PropertiesHave Here) p → PropertiesHave Here (all_unless p)
  unless_lie None h = tt
  unless_lie (Some p) h = h

  abbrev HeadingHas : Heading → Type 0
  HeadingHas h = Here h.span

  heading_lies : Gives end heading HeadingHas
  unfolding heading
  heading_lies = either_gives end (mapped_gives end (seq_gives end (any_gives end) (name_lies end)) (λ a h. h.1))
      (mapped_gives end (two_lie end m.Default m.Label) (λ a h. h))

  label_lies : Gives end label (LabelHas Here)
  unfolding label
  label_lies = mapped_gives end (seq_gives end heading_lies (opt_gives end properties_lie)) (λ a h. (h.0, unless_lie a.1 h.1))

  -- of an element whose name lies in the text, so do the labels
  abbrev LabelsHave : OfElement → Type 0
  LabelsHave all = (own : Named) → NameHas Here own → AllByRecursion (LabelHas Here) (all own)

  label_list_lies : Gives end label_list (AllByRecursion (LabelHas Here))
  unfolding label_list
  label_list_lies = mapped_gives end (seq_gives end label_lies (many_gives end label_lies)) (λ a h. h)

  written_labels_lie : Gives end written_labels LabelsHave
  unfolding written_labels
  written_labels_lie = either_gives end (mapped_gives end properties_lie (λ a h own o. ((o, h), tt))) (mapped_gives end label_list_lies (λ a h own o. h))

  labels_of_lie : (all : Option OfElement) → IfGiven LabelsHave all → LabelsHave (labels_of all)
  labels_of_lie None h = λ own o. ((o, tt), tt)
  labels_of_lie (Some all) h = h

  labels_lie : Gives end labels LabelsHave
  unfolding labels
  labels_lie = mapped_gives end (opt_gives end written_labels_lie) labels_of_lie

  abbrev KeyDefHas : KeyDef → Type 0
  KeyDefHas k = Here k.span × NamesHave Here k.columns

  key_lies : Gives end key KeyDefHas
  unfolding key
  key_lies = mapped_gives end (seq_gives end (the_lies end m.Key) (columns_lie end)) (λ a h. h)

  alias_lies : Gives end alias (GivenNameHas Here)
  unfolding alias
  alias_lies = opt_gives end (mapped_gives end (seq_gives end (any_gives end) (name_lies end)) (λ a h. h.1))

  given_key : (k : Option KeyDef) → IfGiven KeyDefHas k → KeyHas Here k
  given_key None h = tt
  given_key (Some k) h = h

  abbrev HeadHas : Head → Type 0
  HeadHas h = NameHas Here h.table × (GivenNameHas Here h.alias × KeyHas Here h.key)

  head_lies : Gives end head HeadHas
  unfolding head
  head_lies = mapped_gives end (seq_gives end (name_lies end) (seq_gives end alias_lies (opt_gives end key_lies))) (λ a h. (h.0, (h.1.0, given_key a.1.1 h.1.1)))

  alias_or_lies : (own : Named) (other : Option Named) → NameHas Here own → GivenNameHas Here other → NameHas Here (alias_or own other)
  alias_or_lies own None h g = h
  alias_or_lies own (Some other) h g = g

  element_of_lies : (h : Head) → HeadHas h → (all : OfElement) → LabelsHave all → ElementHas Here (element_of h (all (own_name h)))
  element_of_lies h l all k = record { table = l.0; alias = l.1.0; key = l.1.1; labels = k (own_name h) (alias_or_lies h.table h.alias l.0 l.1.0) }

  element_lies : Gives end element (ElementHas Here)
  unfolding element
  element_lies = mapped_gives end (seq_gives end head_lies labels_lie) (λ a h. element_of_lies a.0 h.0 a.1 h.1)

  end_name_lies : Gives end (one is_end_name named) (NameHas Here)
  end_name_lies = one_gives end (λ t h. h)

  end_lies : Gives end an_end (EndHas Here)
  unfolding an_end
  end_lies = either_gives end
      (mapped_gives end (seq_gives end key_lies (seq_gives end (any_gives end) (seq_gives end (name_lies end) (opt_gives end (columns_lie end)))))
      (λ a h. (h.0.1, h.1.1.0, listed_lie end a.1.1.1 h.1.1.1)))
      (mapped_gives end (end_name_lies) (λ a h. h))

  abbrev EndsHave : Ends → Type 0
  EndsHave e = EndHas Here e.source × EndHas Here e.destination

  ends_lie : Gives end ends EndsHave
  unfolding ends
  ends_lie = mapped_gives end (seq_gives end (any_gives end) (seq_gives end end_lies (seq_gives end (any_gives end) end_lies))) (λ a h. (h.1.0, h.1.1.1))

  edge_lies : Gives end edge (EdgeHas Here)
  unfolding edge
  edge_lies = mapped_gives end (seq_gives end head_lies (seq_gives end ends_lie labels_lie))
      (λ a h. record { element = element_of_lies a.0 h.0 a.1.1 h.1.1; source = h.1.0.0; destination = h.1.0.1 })

  vertices_lie : Gives end vertices (AllByRecursion (ElementHas Here))
  unfolding vertices
  vertices_lie = mapped_gives end (seq_gives end (any_gives end)
      (seq_gives end (any_gives end) (parens_give end Inside.element_list (AllByRecursion (ElementHas Here)) (list_gives end element_lies)))) (λ a h. h.1.1)

  edges_lie : Gives end edges (AllByRecursion (EdgeHas Here))
  unfolding edges
  edges_lie = mapped_gives end (seq_gives end (any_gives end)
      (seq_gives end (any_gives end) (parens_give end Inside.edge_list (AllByRecursion (EdgeHas Here)) (list_gives end edge_lies)))) (λ a h. h.1.1)

  or_none_lie : (es : Option (List EdgeDef)) → IfGiven (AllByRecursion (EdgeHas Here)) es → AllByRecursion (EdgeHas Here) (edges_or_none es)
  or_none_lie None h = tt
  or_none_lie (Some es) h = h

  graph_lies : Gives end graph (GraphHas Here)
  unfolding graph
  graph_lies = mapped_gives end (seq_gives end (any_gives end)
      (seq_gives end (any_gives end) (seq_gives end (name_lies end) (seq_gives end vertices_lie (opt_gives end edges_lie)))))
      (λ a h. record { name = h.1.1.0; vertices = h.1.1.1.0; edges = or_none_lie a.1.1.1.1 h.1.1.1.1 })

  statement_lies : Gives end a_statement (StatementHas Here)
  unfolding a_statement
  statement_lies = mapped_gives end (seq_gives end (any_gives end) (either_gives end (mapped_gives end (table_lies end) (λ a h. h)) (mapped_gives end graph_lies (λ a h. h))))
      (λ a h. h.1)

  schema_lies : Gives end schema (EachSpanHas Here)
  unfolding schema
  schema_lies = mapped_gives end (seq_gives end statement_lies (trailing_gives end statement_lies)) (λ a h. h)

pub spans_lie : (end : ℕ) (ts : List Token) (tree : SchemaTree) → AreInOrder 0 end ts → SpellsSchema ts tree → EachSpanHas (LiesIn end) tree
spans_lie end ts tree o (n, (d, t, v)) = subst (EachSpanHas (LiesIn end)) v ((schema_lies end).holds n d (0, subst (AreInOrder 0 end) t o))
