-- The tree of a schema text has the shape that the grammar gives it.
use Rattle.std.proofs.Common.{◌≡◌, refl, ap, subst, ℕ, zero, suc, ◌+◌, ◌<◌, ◌≤◌, ◌^◌, Some, None, List, [], ◌∷◌, ◌++◌, map, length, length-append, inl, inr, arith}
use Rattle.std.specs.List.{AllByRecursion, flat_map}
use Rattle.sql_lexer.specs.declared.token.Token.{Token}
use Rattle.graph_ast.specs.declared.schema.SchemaTree.{SchemaTree}
use Rattle.graph_ast.specs.declared.schema.Statement.{Statement}
use Rattle.graph_ast.specs.declared.schema.Statement.TheVariants as statement
use Rattle.graph_ast.specs.declared.schema.TableDef.{TableDef}
use Rattle.graph_ast.specs.declared.schema.ColumnDef.{ColumnDef}
use Rattle.graph_ast.specs.declared.schema.RuleDef.{RuleDef}
use Rattle.graph_ast.specs.declared.schema.GraphDef.{GraphDef}
use Rattle.graph_ast.specs.declared.schema.ElementDef.{ElementDef}
use Rattle.graph_ast.specs.declared.schema.EdgeDef.{EdgeDef}
use Rattle.graph_ast.specs.declared.schema.Named.{Named}
use Rattle.graph_ast.specs.Schemas.{tables_among, graphs_among, rules_of}
use Rattle.graph_ast.specs.Shapes.{IsNotEmpty, RuleHasShape, KeyHasShape, EndHasShape, GraphHasShape, HasShape}
use Rattle.token_grammar.specs.Grammar.{Grammar, many_tokens, opt_tokens, one, seq}
use Rattle.token_grammar.specs.Rules.{grammar, within, is, the_token}
use Rattle.token_grammar.specs.Rules.Rule.{trailing}
use Rattle.token_marks.specs.declared.mark.Mark.TheVariants as m
use Rattle.token_marks.specs.Marks.{number_of}
use Rattle.token_reading.specs.Tokens.{class}
use Rattle.schema_parser.specs.declared.tables.TableItem.{TableItem}
use Rattle.schema_parser.specs.declared.tables.TableItem.TheVariants as item
use Rattle.schema_parser.specs.Tables.{Inside, Held, Production, AtColumn, parens, list, name, columns, column_rule_kind, column_rule, column_rules, column, table_rule_kind}
use Rattle.schema_parser.specs.Tables.{table_rule, table_item, table, columns_among, rules_among}
use Rattle.schema_parser.specs.Graphs.{inside, key, head, element, end, ends, edge, vertices, edges, graph, statement as a_statement, schema}
use Rattle.schema_parser.specs.Outcomes.{SpellsSchema}

-- ---- lists

map_all : {A B : Type 0} (f : A → B) (P : B → Type 0) (xs : List A) → ((x : A) → P (f x)) → AllByRecursion P (map f xs)
map_all f P [] h = tt
map_all f P (x ∷ xs) h = (h x, map_all f P xs h)

map_kept : {A B : Type 0} (f : A → B) (P : B → Type 0) (Q : A → Type 0) (xs : List A) → ((x : A) → Q x → P (f x)) → AllByRecursion Q xs → AllByRecursion P (map f xs)
map_kept f P Q [] h a = tt
map_kept f P Q (x ∷ xs) h a = (h x a.0, map_kept f P Q xs h a.1)

append_all : {A : Type 0} (P : A → Type 0) (xs ys : List A) → AllByRecursion P xs → AllByRecursion P ys → AllByRecursion P (xs ++ ys)
append_all P [] ys a b = b
append_all P (x ∷ xs) ys a b = (a.0, append_all P xs ys a.1 b)

flat_all : {A B : Type 0} (f : A → List B) (P : B → Type 0) (xs : List A) → AllByRecursion (λ x. AllByRecursion P (f x)) xs → AllByRecursion P (flat_map f xs)
flat_all f P [] a = tt
flat_all f P (x ∷ xs) a = append_all P (f x) (flat_map f xs) a.0 (flat_all f P xs a.1)

-- the second parts of pairs
pairs_long : {A B D : Type 0} (f : D → A) (g : D → B) (ds : List D) → length (map (λ (p : A × B). p.1) (map (λ (d : D). let p : A × B = (f d, g d) in p) ds)) ≡ length ds
pairs_long f g [] = refl
pairs_long f g (d ∷ ds) = ap suc (pairs_long f g ds)

pairs_all : {A B D : Type 0} (f : D → A) (g : D → B) (P : B → Type 0) (ds : List D) → ((d : D) → P (g d))
    → AllByRecursion P (map (λ (p : A × B). p.1) (map (λ (d : D). let p : A × B = (f d, g d) in p) ds))
pairs_all f g P [] h = tt
pairs_all f g P (d ∷ ds) h = (h d, pairs_all f g P ds h)

-- at least one token for each
many_long : {D : Type 0} (f : D → List Token) → ((d : D) → 1 ≤ length (f d)) → (ds : List D) → length ds ≤ length (many_tokens f ds)
many_long f h [] = omega arith
many_long f h (d ∷ ds) =
    let here : 1 ≤ length (f d) = h d in
    let rest : length ds ≤ length (many_tokens f ds) = many_long f h ds in
    omega (arith, here, rest, length-append (f d) (many_tokens f ds))

not_empty : {A : Type 0} (x : A) (xs : List A) → IsNotEmpty (x ∷ xs)
not_empty x xs = omega arith

-- ---- productions, where some parentheses may be open

abbrev at : ℕ → {V : Type 0} → Production V → Grammar Token V
at n r = grammar class inside n r

parens_all : (n : ℕ) (k : Inside) (P : Held k → Type 0) → ((m : ℕ) (d : (at m (inside k)).Phrase) → P ((at m (inside k)).value d)) → (d : (at n (parens k)).Phrase)
    → P ((at n (parens k)).value d)
unfolding within
parens_all zero k P h d = absurd d.1.0
parens_all (suc n) k P h d = h n d.1.0

list_all_of : {V : Type 0} (n : ℕ) (r : Production V) (P : V → Type 0) → ((d : (at n r).Phrase) → P ((at n r).value d)) → (d : (at n (list r)).Phrase)
    → AllByRecursion P ((at n (list r)).value d)
list_all_of n r P h d = (h d.0, map_all (λ p. (at n r).value p.1) P d.1 (λ p. h p.1))

list_some : {V : Type 0} (n : ℕ) (r : Production V) (d : (at n (list r)).Phrase) → IsNotEmpty ((at n (list r)).value d)
list_some n r d = not_empty ((at n r).value d.0) (map (λ p. (at n r).value p.1) d.1)

columns_some : (n : ℕ) (d : (at n columns).Phrase) → IsNotEmpty ((at n columns).value d)
unfolding columns
columns_some n d = parens_all n Inside.name_list IsNotEmpty (λ m e. list_some m name e) d

-- ---- tables

abbrev RuleIs : RuleDef → Type 0
RuleIs r = RuleHasShape r.kind

abbrev ColumnIs : ColumnDef → Type 0
ColumnIs c = AllByRecursion RuleIs c.rules

abbrev TableIs : TableDef → Type 0
TableIs t = AllByRecursion RuleIs (rules_of t)

abbrev ItemIs : TableItem → Type 0
ItemIs (item.Column c) = ColumnIs c
ItemIs (item.Rule r) = RuleIs r

column_rule_kind_is : (n : ℕ) (own : Named) (d : (at n column_rule_kind).Phrase) → RuleIs ((at n column_rule_kind).value d own)
unfolding column_rule_kind
column_rule_kind_is n own (inl d) = tt
column_rule_kind_is n own (inr (inl d)) = not_empty own []
column_rule_kind_is n own (inr (inr (inl d))) = not_empty own []
column_rule_kind_is n own (inr (inr (inr (inl d)))) = not_empty own []
column_rule_kind_is n own (inr (inr (inr (inr (inl d))))) = tt
column_rule_kind_is n own (inr (inr (inr (inr (inr d))))) = tt

column_rule_is : (n : ℕ) (own : Named) (d : (at n column_rule).Phrase) → RuleIs ((at n column_rule).value d own)
unfolding column_rule
column_rule_is n own d = column_rule_kind_is n own d.1

column_rules_are : (n : ℕ) (own : Named) (d : (at n column_rules).Phrase) → AllByRecursion RuleIs (map (λ rule. rule own) ((at n column_rules).value d))
unfolding column_rules
column_rules_are n own d =
    map_kept (λ (rule : AtColumn). rule own) RuleIs (λ (rule : AtColumn). RuleIs (rule own)) _ (λ rule h. h)
    (map_all ((at n column_rule).value) (λ (rule : AtColumn). RuleIs (rule own)) d (column_rule_is n own))

column_is : (n : ℕ) (d : (at n column).Phrase) → ColumnIs ((at n column).value d)
unfolding column
column_is n d = column_rules_are n _ d.1.1

table_rule_kind_is : (n : ℕ) (d : (at n table_rule_kind).Phrase) → RuleIs ((at n table_rule_kind).value d)
unfolding table_rule_kind
table_rule_kind_is n (inl d) = columns_some n d.1.1
table_rule_kind_is n (inr (inl d)) = columns_some n d.1
table_rule_kind_is n (inr (inr (inl d))) = columns_some n d.1.1.0
table_rule_kind_is n (inr (inr (inr d))) = tt

table_rule_is : (n : ℕ) (d : (at n table_rule).Phrase) → RuleIs ((at n table_rule).value d)
unfolding table_rule
table_rule_is n d = table_rule_kind_is n d.1

table_item_is : (n : ℕ) (d : (at n table_item).Phrase) → ItemIs ((at n table_item).value d)
unfolding table_item
table_item_is n (inl d) = column_is n d
table_item_is n (inr d) = table_rule_is n d

columns_are : (items : List TableItem) → AllByRecursion ItemIs items → AllByRecursion ColumnIs (columns_among items)
columns_are [] h = tt
columns_are (item.Column c ∷ items) h = (h.0, columns_are items h.1)
columns_are (item.Rule r ∷ items) h = columns_are items h.1

rules_are : (items : List TableItem) → AllByRecursion ItemIs items → AllByRecursion RuleIs (rules_among items)
rules_are [] h = tt
rules_are (item.Column c ∷ items) h = rules_are items h.1
rules_are (item.Rule r ∷ items) h = (h.0, rules_are items h.1)

items_are : (items : List TableItem) → AllByRecursion ItemIs items → AllByRecursion RuleIs (flat_map (λ (c : ColumnDef). c.rules) (columns_among items) ++ rules_among items)
items_are items h = append_all RuleIs _ _ (flat_all (λ (c : ColumnDef). c.rules) RuleIs (columns_among items) (columns_are items h)) (rules_are items h)

table_is : (n : ℕ) (d : (at n table).Phrase) → TableIs ((at n table).value d)
unfolding table
table_is n d = items_are _ (parens_all n Inside.item_list (AllByRecursion ItemIs) (λ m e. list_all_of m table_item ItemIs (table_item_is m) e) d.1.1)

-- ---- graphs

abbrev ElementIs : ElementDef → Type 0
ElementIs e = KeyHasShape e.key

abbrev EdgeIs : EdgeDef → Type 0
EdgeIs e = ElementIs e.element × (EndHasShape e.source × EndHasShape e.destination)

key_is : (n : ℕ) (d : (at n key).Phrase) → IsNotEmpty (((at n key).value d).columns)
unfolding key
key_is n d = columns_some n d.1

head_is : (n : ℕ) (d : (at n head).Phrase) → KeyHasShape (((at n head).value d).key)
unfolding head
head_is n (a, (b, None)) = tt
head_is n (a, (b, Some k)) = key_is n k

element_is : (n : ℕ) (d : (at n element).Phrase) → ElementIs ((at n element).value d)
unfolding element
element_is n d = head_is n d.0

end_is : (n : ℕ) (d : (at n end).Phrase) → EndHasShape ((at n end).value d)
unfolding end
end_is n (inl d) = key_is n d.0
end_is n (inr d) = tt

ends_are : (n : ℕ) (d : (at n ends).Phrase) → EndHasShape (((at n ends).value d).source) × EndHasShape (((at n ends).value d).destination)
unfolding ends
ends_are n d = (end_is n d.1.0, end_is n d.1.1.1)

edge_is : (n : ℕ) (d : (at n edge).Phrase) → EdgeIs ((at n edge).value d)
unfolding edge
edge_is n d = (head_is n d.0, ends_are n d.1.0)

abbrev SomeElements : List ElementDef → Type 0
SomeElements es = IsNotEmpty es × AllByRecursion ElementIs es

vertices_are : (n : ℕ) (d : (at n vertices).Phrase) → SomeElements ((at n vertices).value d)
unfolding vertices
vertices_are n d = parens_all n Inside.element_list SomeElements (λ m e. (list_some m element e, list_all_of m element ElementIs (element_is m) e)) d.1.1

edges_are : (n : ℕ) (d : (at n edges).Phrase) → AllByRecursion EdgeIs ((at n edges).value d)
unfolding edges
edges_are n d = parens_all n Inside.edge_list (AllByRecursion EdgeIs) (λ m e. list_all_of m edge EdgeIs (edge_is m) e) d.1.1

edge_elements : (es : List EdgeDef) → AllByRecursion EdgeIs es → AllByRecursion ElementIs (map (λ (e : EdgeDef). e.element) es)
edge_elements es h = map_kept (λ (e : EdgeDef). e.element) ElementIs EdgeIs es (λ e k. k.0) h

edge_ends : (es : List EdgeDef) → AllByRecursion EdgeIs es → AllByRecursion (λ (e : EdgeDef). EndHasShape e.source × EndHasShape e.destination) es
edge_ends [] h = tt
edge_ends (e ∷ es) h = (h.0.1, edge_ends es h.1)

graph_of : (g : GraphDef) → SomeElements g.vertices → AllByRecursion EdgeIs g.edges → GraphHasShape g
graph_of g v e = record { vertices = v.0; keys = append_all ElementIs g.vertices _ v.1 (edge_elements g.edges e); ends = edge_ends g.edges e }

graph_is : (n : ℕ) (d : (at n graph).Phrase) → GraphHasShape ((at n graph).value d)
unfolding graph
graph_is n (a, (b, (c, (v, None)))) = graph_of _ (vertices_are n v) tt
graph_is n (a, (b, (c, (v, Some e)))) = graph_of _ (vertices_are n v) (edges_are n e)

-- ---- whole texts

abbrev StatementIs : Statement → Type 0
StatementIs (statement.Table t) = TableIs t
StatementIs (statement.Graph g) = GraphHasShape g

statement_is : (n : ℕ) (d : (at n a_statement).Phrase) → StatementIs ((at n a_statement).value d)
unfolding a_statement
statement_is n (c, inl d) = table_is n d
statement_is n (c, inr d) = graph_is n d

statement_long : (n : ℕ) (d : (at n a_statement).Phrase) → 1 ≤ length ((at n a_statement).tokens d)
unfolding a_statement
statement_long n d = omega arith

tables_are : (all : List Statement) → AllByRecursion StatementIs all → AllByRecursion TableIs (tables_among all)
tables_are [] h = tt
tables_are (statement.Table t ∷ all) h = (h.0, tables_are all h.1)
tables_are (statement.Graph g ∷ all) h = tables_are all h.1

graphs_are : (all : List Statement) → AllByRecursion StatementIs all → AllByRecursion GraphHasShape (graphs_among all)
graphs_are [] h = tt
graphs_are (statement.Table t ∷ all) h = graphs_are all h.1
graphs_are (statement.Graph g ∷ all) h = (h.0, graphs_are all h.1)

abbrev Followed : ℕ → Type 0
Followed n = (seq (one (is class (number_of m.Semicolon)) the_token) (at n a_statement)).Phrase

abbrev semicolon_of : (n : ℕ) → Followed n → Token
semicolon_of n p = p.0.0

abbrev statement_of : (n : ℕ) → Followed n → Statement
statement_of n p = (at n a_statement).value p.1

abbrev tokens_of : (n : ℕ) → Followed n → List Token
tokens_of n p = p.0.0 ∷ [] ++ (at n a_statement).tokens p.1

statements_are : (n : ℕ) (d : (at n schema).Phrase) → AllByRecursion StatementIs (((at n schema).value d).statements)
unfolding schema
statements_are n d = (statement_is n d.0, pairs_all (semicolon_of n) (statement_of n) StatementIs d.1.0 (λ p. statement_is n p.1))

tokens_of_long : (n : ℕ) (p : Followed n) → 1 ≤ length (tokens_of n p)
tokens_of_long n p = omega arith

statements_few : (n : ℕ) (d : (at n schema).Phrase) → length (((at n schema).value d).statements) ≤ length ((at n schema).tokens d)
unfolding schema
statements_few n d =
    let first : 1 ≤ length ((at n a_statement).tokens d.0) = statement_long n d.0 in
    let more : length d.1.0 ≤ length (many_tokens (tokens_of n) d.1.0) = many_long (tokens_of n) (tokens_of_long n) d.1.0 in
    let all : length (((at n schema).value d).statements) ≡ suc (length d.1.0) = ap suc (pairs_long (semicolon_of n) (statement_of n) d.1.0) in
    let whole : length ((at n schema).tokens d) ≡ length ((at n a_statement).tokens d.0) + length ((at n (trailing (number_of m.Semicolon) a_statement)).tokens d.1)
    = length-append ((at n a_statement).tokens d.0) ((at n (trailing (number_of m.Semicolon) a_statement)).tokens d.1) in
    let behind : length (many_tokens (tokens_of n) d.1.0) ≤ length ((at n (trailing (number_of m.Semicolon) a_statement)).tokens d.1)
    = omega (arith, length-append (many_tokens (tokens_of n) d.1.0) (opt_tokens (λ (e : (one (is class (number_of m.Semicolon)) the_token).Phrase). e.0 ∷ []) d.1.1)) in
    omega (arith, first, more, all, whole, behind)

shape_of : (n : ℕ) (ts : List Token) (d : (at n schema).Phrase) → ts ≡ (at n schema).tokens d → length ts < 2 ^ 32 → HasShape ((at n schema).value d)
shape_of n ts d t few = record {
  few = omega (arith, statements_few n d, ap length t, few);
  tables = tables_are (((at n schema).value d).statements) (statements_are n d);
  graphs = graphs_are (((at n schema).value d).statements) (statements_are n d);
}

pub has_shape : (ts : List Token) (tree : SchemaTree) → SpellsSchema ts tree → length ts < 2 ^ 32 → HasShape tree
has_shape ts tree (n, (d, t, v)) few = subst HasShape v (shape_of n ts d t few)
