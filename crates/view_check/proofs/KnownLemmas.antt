-- Places of names among the names of some items.
use Rattle.std.proofs.Common.{◌≡◌, ◌+◌, ◌<◌, ◌++◌, arith, append_assoc, drop, get_or, option_to_list, slice_get, ℕ, suc, Bool, true, false, ◌||◌, cond, List, [], ◌∷◌, map}
use Rattle.std.proofs.Common.{length, refl, ap, sym, ◌∙◌, Option, Some, None, is_some, option_map, unwrap_or, bytes_eq}
use Rattle.std.specs.List.{list_any, position_or_len, filter_map, flat_map, cons_option}
use Rattle.std.proofs.lemmas.List.{drop_more}
use Rattle.std.proofs.lemmas.List.Folds.{find_at}
use Rattle.std.proofs.lemmas.List.Elements.{filter_map-append}
use Rattle.std.specs.Cmp.Lexicographic.{nat_list_eq_equiv}
use Rattle.graph_ast.specs.declared.schema.Named.{Named}
use Rattle.graph_ast.specs.declared.schema.TableDef.{TableDef}
use Rattle.graph_ast.specs.declared.schema.ColumnDef.{ColumnDef}
use Rattle.graph_ast.specs.declared.schema.RuleDef.{RuleDef}
use Rattle.graph_ast.specs.declared.schema.RuleKind.{RuleKind}
use Rattle.graph_ast.specs.declared.schema.RuleKind.TheVariants as kinds
use Rattle.graph_ast.specs.Schemas.{rules_of}
use Rattle.first_faults.specs.Names.{same_names}
use Rattle.first_faults.specs.Places.{first_place}
use Rattle.view_check.specs.declared.exposed.Exposed.{Exposed}
use Rattle.view_check.specs.KeyLists.{key_names, key_lists}
use Rattle.view_check.specs.TableRules as text
use Rattle.view_check.specs.GraphRules as graph
use Rattle.graph_ast.specs.declared.catalog.Table.{Table}
use Rattle.graph_ast.specs.declared.catalog.Column.{Column}
use Rattle.view_check.specs.Catalogs as text_places

cons_is_append : {X : Type 0} (o : Option X) (xs : List X) → cons_option o xs ≡ option_to_list o ++ xs
cons_is_append None xs = refl
cons_is_append (Some x) xs = refl

is_some_map : (o : Option ℕ) → is_some (option_map (λ n. suc n) o) ≡ is_some o
is_some_map None = refl
is_some_map (Some n) = refl

unwrap_or_map : (o : Option ℕ) (n : ℕ) → unwrap_or (option_map (λ n. suc n) o) (suc n) ≡ suc (unwrap_or o n)
unwrap_or_map None n = refl
unwrap_or_map (Some m) n = refl

-- a name has a place exactly where an item has it
pub any_place : {X : Type 0} (f : X → List ℕ) (name : List ℕ) (xs : List X) → is_some (first_place name (map f xs)) ≡ list_any (λ x. bytes_eq (f x) name) xs
any_place f name [] = refl
any_place f name (x ∷ xs) = go (any_place f name xs) (bytes_eq name (f x)) (nat_list_eq_equiv.symm name (f x))
  where
    go : is_some (first_place name (map f xs)) ≡ list_any (λ y. bytes_eq (f y) name) xs → (b : Bool) → b ≡ bytes_eq (f x) name →
        is_some (cond b (Some 0) (option_map (λ m. suc m) (first_place name (map f xs)))) ≡ (bytes_eq (f x) name || list_any (λ y. bytes_eq (f y) name) xs)
    go rest true e = rw (← e) refl
    go rest false e = rw (← e) (is_some_map (first_place name (map f xs)) ∙ rest)

-- and it is the place of the first one
pub first_position : {X : Type 0} (f : X → List ℕ) (name : List ℕ) (xs : List X) →
    unwrap_or (first_place name (map f xs)) (length xs) ≡ position_or_len (λ x. bytes_eq (f x) name) xs
first_position f name [] = refl
first_position f name (x ∷ xs) = go (first_position f name xs) (bytes_eq name (f x)) (nat_list_eq_equiv.symm name (f x))
  where
    go : unwrap_or (first_place name (map f xs)) (length xs) ≡ position_or_len (λ y. bytes_eq (f y) name) xs → (b : Bool) → b ≡ bytes_eq (f x) name →
        unwrap_or (cond b (Some 0) (option_map (λ m. suc m) (first_place name (map f xs)))) (suc (length xs)) ≡ position_or_len (λ y. bytes_eq (f y) name) (x ∷ xs)
    go rest true e = rw (← e) refl
    go rest false e =
        let one : suc (position_or_len (λ y. bytes_eq (f y) name) xs) ≡ 1 + position_or_len (λ y. bytes_eq (f y) name) xs = omega arith in
        rw (← e) (unwrap_or_map (first_place name (map f xs)) (length xs) ∙ ap (λ n. suc n) rest ∙ one)

pub exposed_place : (name : List ℕ) (earlier : List Exposed) → is_some (first_place name (map (λ q. q.name) earlier)) ≡ list_any (λ q. bytes_eq q.name name) earlier
exposed_place name earlier = any_place (λ (q : Exposed). q.name) name earlier

pub column_known : (name : List ℕ) (t : TableDef) → is_some (first_place name (map (λ c. c.name.name) t.columns)) ≡ text.has_column t name
column_known name t = any_place (λ c. c.name.name) name t.columns

pub column_at : (name : List ℕ) (t : TableDef) →
    unwrap_or (first_place name (map (λ c. c.name.name) t.columns)) (length t.columns) ≡ position_or_len (λ c. bytes_eq c.name.name name) t.columns
column_at name t = first_position (λ c. c.name.name) name t.columns

pub table_at : (name : List ℕ) (tables : List TableDef) →
    unwrap_or (first_place name (map (λ t. t.name.name) tables)) (length tables) ≡ position_or_len (λ t. bytes_eq t.name.name name) tables
table_at name tables = first_position (λ (t : TableDef). t.name.name) name tables

pub column_first : (name : List ℕ) (t : TableDef) → slice_get t.columns (text_places.column_place t name) ≡ text.column_named t name
column_first name t = sym (find_at (λ c. bytes_eq c.name.name name) t.columns)

pub table_first : (name : List ℕ) (tables : List TableDef) → slice_get tables (text_places.table_place tables name) ≡ text.table_named tables name
table_first name tables = sym (find_at (λ t. bytes_eq t.name.name name) tables)

-- a loop that appends the lists of keys
pub keys_step : (done : List (List Named)) (rules : List RuleDef) (i : ℕ) (r : RuleDef) → i < length rules → r ≡ get_or rules i r →
    done ++ filter_map (λ x. key_names x.kind) (drop i rules) ≡ (done ++ option_to_list (key_names r.kind)) ++ filter_map (λ x. key_names x.kind) (drop (i + 1) rules)
keys_step done rules i r within is =
    ap (λ l. done ++ filter_map (λ (x : RuleDef). key_names x.kind) l) (drop_more rules i r within)
    ∙ ap (λ (y : RuleDef). done ++ filter_map (λ x. key_names x.kind) (y ∷ drop (i + 1) rules)) (sym is)
    ∙ ap (λ l. done ++ l) (cons_is_append (key_names r.kind) (filter_map (λ x. key_names x.kind) (drop (i + 1) rules)))
    ∙ sym (append_assoc done (option_to_list (key_names r.kind)) (filter_map (λ x. key_names x.kind) (drop (i + 1) rules)))

pub all_keys_step : (done : List (List Named)) (columns : List ColumnDef) (own : List RuleDef) (i : ℕ) (c : ColumnDef) → i < length columns → c ≡ get_or columns i c →
    done ++ filter_map (λ r. key_names r.kind) (flat_map (λ x. x.rules) (drop i columns) ++ own) ≡
    (done ++ filter_map (λ r. key_names r.kind) c.rules) ++ filter_map (λ r. key_names r.kind) (flat_map (λ x. x.rules) (drop (i + 1) columns) ++ own)
all_keys_step done columns own i c within is =
    let h : RuleDef → Option (List Named) = λ r. key_names r.kind in
    ap (λ l. done ++ filter_map h (flat_map (λ (x : ColumnDef). x.rules) l ++ own)) (drop_more columns i c within)
    ∙ ap (λ (y : ColumnDef). done ++ filter_map h ((y.rules ++ flat_map (λ x. x.rules) (drop (i + 1) columns)) ++ own)) (sym is)
    ∙ ap (λ l. done ++ filter_map h l) (append_assoc c.rules (flat_map (λ x. x.rules) (drop (i + 1) columns)) own)
    ∙ ap (λ l. done ++ l) (filter_map-append h c.rules (flat_map (λ x. x.rules) (drop (i + 1) columns) ++ own))
    ∙ sym (append_assoc done (filter_map h c.rules) (filter_map h (flat_map (λ x. x.rules) (drop (i + 1) columns) ++ own)))

-- a list is that of a key exactly where a list of a key is the same
among_keys : (names : List Named) (rules : List RuleDef) → list_any (λ key. same_names names key) (filter_map (λ r. key_names r.kind) rules)
    ≡ list_any (λ r. text.is_key_list names r.kind) rules
among_keys names [] = refl
among_keys names (r ∷ rules) = go r.kind (among_keys names rules)
  where
    go : (kind : RuleKind) → list_any (λ key. same_names names key) (filter_map (λ x. key_names x.kind) rules) ≡ list_any (λ x. text.is_key_list names x.kind) rules →
        list_any (λ key. same_names names key) (cons_option (key_names kind) (filter_map (λ x. key_names x.kind) rules)) ≡
        (text.is_key_list names kind || list_any (λ x. text.is_key_list names x.kind) rules)
    go (kinds.Primary key) rest = ap (λ b. same_names names key || b) rest
    go (kinds.Unique key) rest = ap (λ b. same_names names key || b) rest
    go kinds.NotNull rest = rest
    go (kinds.Foreign own target listed) rest = rest
    go kinds.Default rest = rest
    go kinds.Check rest = rest

pub key_known : (names : List Named) (t : TableDef) → list_any (λ key. same_names names key) (key_lists t) ≡ text.is_key t names
key_known names t = among_keys names (rules_of t)

pub entry_column_known : (name : List ℕ) (t : Table) → is_some (first_place name (map (λ c. c.name) t.columns)) ≡ graph.has_column t name
entry_column_known name t = any_place (λ (c : Column). c.name) name t.columns

pub entry_column_at : (name : List ℕ) (t : Table) →
    unwrap_or (first_place name (map (λ c. c.name) t.columns)) (length t.columns) ≡ position_or_len (λ c. bytes_eq c.name name) t.columns
entry_column_at name t = first_position (λ (c : Column). c.name) name t.columns

pub entry_at : (name : List ℕ) (tables : List Table) →
    unwrap_or (first_place name (map (λ t. t.name) tables)) (length tables) ≡ position_or_len (λ t. bytes_eq t.name name) tables
entry_at name tables = first_position (λ (t : Table). t.name) name tables

pub entry_first : (name : List ℕ) (tables : List Table) → slice_get tables (graph.table_place tables name) ≡ graph.named_table tables name
entry_first name tables = sym (find_at (λ t. bytes_eq t.name name) tables)
