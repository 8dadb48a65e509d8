-- Looking declarations up by the names of those of which a test holds.
use Rattle.std.proofs.Common.{◌≡◌, ◌∙◌, ℕ, suc, Bool, true, false, ◌||◌, ◌&&◌, not, cond, ap, sym, refl, List, [], ◌∷◌, ◌++◌, map, Option, None, Some, option_map, slice_get}
use Rattle.std.proofs.Common.{bytes_eq}
use Rattle.std.specs.List.{list_any, list_all}
use Rattle.std.specs.Cmp.Lexicographic.{bytes_decides, nat_list_eq_equiv}
use Rattle.std.proofs.lemmas.List.Folds.{list_all-append}
use Rattle.std.proofs.lemmas.List.{append-nil, map-append}
use Rattle.std.proofs.lemmas.Grind.{flat_map-append}
use Rattle.first_faults.specs.Names.{has_text}
use Rattle.first_faults.specs.Places.{first_place}
use Rattle.pattern_check.specs.declared.mentions.Mention.{Mention}
use Rattle.pattern_check.specs.declared.mentions.Sort.{Sort}
use Rattle.pattern_check.specs.declared.mentions.Sort.TheVariants.{Vertices, Edges}
use Rattle.pattern_check.specs.Scopes.{Kind, vertices, edges, same_kind, Declaration, declares, first_declaration}
use Rattle.pattern_check.specs.NameRules.{is_declared, is_group}
use Rattle.pattern_check.specs.Mentions.{kind_of, said}
use Rattle.pattern_check.specs.ByName.{names_where, any, in_group, of_kind, group_of_kind, has_other_kind, has_same_kind, HaveVariables}

-- the names of a longer list
pub where_more : (holds : Declaration → Bool) (all : List Declaration) (d : Declaration) →
    names_where holds (all ++ d ∷ []) ≡ names_where holds all ++ cond (holds d) (d.variable.name ∷ []) []
where_more holds all d =
    flat_map-append (λ (e : Declaration). cond (holds e) (e.variable.name ∷ []) []) all (d ∷ [])
    ∙ ap (λ l. names_where holds all ++ l) (append-nil (cond (holds d) (d.variable.name ∷ []) []))

pub said_pushed : (ms : List Mention) (m : Mention) → map said (ms ++ m ∷ []) ≡ map said ms ++ said m ∷ []
said_pushed ms m = map-append said ms (m ∷ [])

-- the names of which a test holds, where one more mention is pushed
pub where_pushed : (holds : Declaration → Bool) (ms more : List Mention) (m : Mention) (old new : List (List ℕ)) (b : Bool) → old ≡ names_where holds (map said ms) →
    new ≡ old ++ cond b (m.variable.now.name ∷ []) [] → b ≡ holds (said m) → more ≡ ms ++ m ∷ [] → new ≡ names_where holds (map said more)
where_pushed holds ms more m old new b at is e grown =
    is
    ∙ ap (λ l. l ++ cond b (m.variable.now.name ∷ []) []) at
    ∙ ap (λ x. names_where holds (map said ms) ++ cond x (m.variable.now.name ∷ []) []) e
    ∙ sym (where_more holds (map said ms) (said m))
    ∙ ap (names_where holds) (sym (said_pushed ms m))
    ∙ ap (λ l. names_where holds (map said l)) (sym grown)

text_where : (holds : Declaration → Bool) (all : List Declaration) (name : List ℕ) →
    has_text name (names_where holds all) ≡ list_any (λ (d : Declaration). declares name d && holds d) all
text_where holds [] name = refl
text_where holds (d ∷ all) name = go (holds d) (declares name d) (text_where holds all name)
  where
    go : (h b : Bool) → has_text name (names_where holds all) ≡ list_any (λ (e : Declaration). declares name e && holds e) all →
        has_text name (cond h (d.variable.name ∷ []) [] ++ names_where holds all) ≡ ((declares name d && h) || list_any (λ (e : Declaration). declares name e && holds e) all)
    go true b rest = here (declares name d) ∙ ap (λ c. (declares name d && true) || c) rest
      where
        here : (c : Bool) → (c || has_text name (names_where holds all)) ≡ ((c && true) || has_text name (names_where holds all))
        here true = refl
        here false = refl
    go false b rest = rest ∙ nothing (declares name d)
      where
        nothing : (c : Bool) → list_any (λ (e : Declaration). declares name e && holds e) all ≡ ((c && false) || list_any (λ (e : Declaration). declares name e && holds e) all)
        nothing true = refl
        nothing false = refl

any_like : (p q : Declaration → Bool) → ((d : Declaration) → p d ≡ q d) → (all : List Declaration) → list_any p all ≡ list_any q all
any_like p q h [] = refl
any_like p q h (d ∷ all) = ap (λ b. b || list_any p all) (h d) ∙ ap (λ b. q d || b) (any_like p q h all)

and_true : (b : Bool) → (b && true) ≡ b
and_true true = refl
and_true false = refl

pub text_any : (all : List Declaration) (name : List ℕ) → has_text name (names_where any all) ≡ is_declared all name
text_any all name = text_where any all name ∙ any_like (λ d. declares name d && any d) (declares name) (λ d. and_true (declares name d)) all

pub text_group : (all : List Declaration) (name : List ℕ) → has_text name (names_where in_group all) ≡ is_group all name
text_group all name = text_where in_group all name

-- ---- kinds

not_vertices : (k : Kind) → same_kind k edges ≡ not (same_kind k vertices)
not_vertices vertices = refl
not_vertices edges = refl

not_edges : (k : Kind) → same_kind k vertices ≡ not (same_kind k edges)
not_edges vertices = refl
not_edges edges = refl

or_true : (b : Bool) → true ≡ (b || true)
or_true true = refl
or_true false = refl

or_false : (b : Bool) → b ≡ (b || false)
or_false true = refl
or_false false = refl

with_quantified : (k : Kind) (q : Bool) → q ≡ true → (all : List Declaration) (name : List ℕ) →
    has_text name (names_where (of_kind k) all) ≡ list_any (λ (e : Declaration). declares name e && (same_kind e.kind k && (e.place.quantified || q))) all
with_quantified k q e all name =
    text_where (of_kind k) all name
    ∙ any_like (λ d. declares name d && of_kind k d) (λ (d : Declaration). declares name d && (same_kind d.kind k && (d.place.quantified || q)))
    (λ d. ap (λ b. declares name d && b) (sym (and_true (same_kind d.kind k))
    ∙ ap (λ b. same_kind d.kind k && b) (or_true d.place.quantified ∙ ap (λ b. d.place.quantified || b) (sym e)))) all

with_single : (k : Kind) (q : Bool) → q ≡ false → (all : List Declaration) (name : List ℕ) →
    has_text name (names_where (group_of_kind k) all) ≡ list_any (λ (e : Declaration). declares name e && (same_kind e.kind k && (e.place.quantified || q))) all
with_single k q e all name =
    text_where (group_of_kind k) all name
    ∙ any_like (λ d. declares name d && group_of_kind k d) (λ (d : Declaration). declares name d && (same_kind d.kind k && (d.place.quantified || q)))
    (λ d. ap (λ b. declares name d && (same_kind d.kind k && b)) (or_false d.place.quantified ∙ ap (λ b. d.place.quantified || b) (sym e))) all

with_other : (k other : Kind) → ((e : Kind) → same_kind e other ≡ not (same_kind e k)) → (all : List Declaration) (name : List ℕ) →
    has_text name (names_where (of_kind other) all) ≡ list_any (λ (e : Declaration). declares name e && not (same_kind e.kind k)) all
with_other k other h all name =
    text_where (of_kind other) all name
    ∙ any_like (λ d. declares name d && of_kind other d) (λ (d : Declaration). declares name d && not (same_kind d.kind k)) (λ d. ap (λ b. declares name d && b) (h d.kind)) all

pub other_of_vertex : (m : Mention) (all : List Declaration) → m.kind ≡ Vertices → has_text m.variable.now.name (names_where (of_kind edges) all) ≡ has_other_kind (said m) all
other_of_vertex m all e =
    with_other vertices edges not_vertices all m.variable.now.name
    ∙ ap (λ k. list_any (λ (d : Declaration). declares m.variable.now.name d && not (same_kind d.kind (kind_of k))) all) (sym e)

pub other_of_edge : (m : Mention) (all : List Declaration) → m.kind ≡ Edges → has_text m.variable.now.name (names_where (of_kind vertices) all) ≡ has_other_kind (said m) all
other_of_edge m all e =
    with_other edges vertices not_edges all m.variable.now.name
    ∙ ap (λ k. list_any (λ (d : Declaration). declares m.variable.now.name d && not (same_kind d.kind (kind_of k))) all) (sym e)

same_at : (m : Mention) (all : List Declaration) (k : Sort) → m.kind ≡ k →
    list_any (λ (d : Declaration). declares m.variable.now.name d && (same_kind d.kind (kind_of k) && (d.place.quantified || m.quantified))) all ≡ has_same_kind (said m) all
same_at m all k e = ap (λ x. list_any (λ (d : Declaration). declares m.variable.now.name d && (same_kind d.kind (kind_of x) && (d.place.quantified || m.quantified))) all) (sym e)

pub same_quantified : (m : Mention) (all : List Declaration) (k : Sort) → m.kind ≡ k → m.quantified ≡ true →
    has_text m.variable.now.name (names_where (of_kind (kind_of k)) all) ≡ has_same_kind (said m) all
same_quantified m all k e q = with_quantified (kind_of k) m.quantified q all m.variable.now.name ∙ same_at m all k e

pub same_single : (m : Mention) (all : List Declaration) (k : Sort) → m.kind ≡ k → m.quantified ≡ false →
    has_text m.variable.now.name (names_where (group_of_kind (kind_of k)) all) ≡ has_same_kind (said m) all
same_single m all k e q = with_single (kind_of k) m.quantified q all m.variable.now.name ∙ same_at m all k e

-- ---- the first declaration

abbrev pub kind_there : Option ℕ → List Mention → Option Sort
kind_there None ms = None
kind_there (Some i) ms = option_map (λ (m : Mention). m.kind) (slice_get ms i)

kind_next : (o : Option ℕ) (m : Mention) (ms : List Mention) → kind_there (option_map (λ i. suc i) o) (m ∷ ms) ≡ kind_there o ms
kind_next None m ms = refl
kind_next (Some i) m ms = refl

pub first_kind : (name : List ℕ) (ms : List Mention) →
    option_map kind_of (kind_there (first_place name (names_where any (map said ms))) ms) ≡ option_map (λ (first : Declaration). first.kind) (first_declaration (map said ms) name)
first_kind name [] = refl
first_kind name (m ∷ ms) = go (first_kind name ms) (bytes_eq name m.variable.now.name) (nat_list_eq_equiv.symm name m.variable.now.name)
  where
    go : option_map kind_of (kind_there (first_place name (names_where any (map said ms))) ms) ≡
        option_map (λ (first : Declaration). first.kind) (first_declaration (map said ms) name) →
        (b : Bool) → b ≡ bytes_eq m.variable.now.name name →
        option_map kind_of (kind_there (cond b (Some 0) (option_map (λ i. suc i) (first_place name (names_where any (map said ms))))) (m ∷ ms)) ≡
        option_map (λ (first : Declaration). first.kind) (cond (bytes_eq m.variable.now.name name) (Some (said m)) (first_declaration (map said ms) name))
    go rest true e = rw (← e) refl
    go rest false e = rw (← e) (ap (option_map kind_of) (kind_next (first_place name (names_where any (map said ms))) m ms) ∙ rest)

-- ---- the first declaration of each variable

absorbed : (b c : Bool) → (b && c) ≡ ((b && c) && b)
absorbed true true = refl
absorbed true false = refl
absorbed false c = refl

behind_one : (b l c : Bool) → l ≡ (l && c) → (b && l) ≡ ((b && l) && c)
behind_one true l c e = e
behind_one false l c e = refl

-- what holds of all variables holds of one that is declared
known_again : (p : List ℕ → Bool) (name : List ℕ) (all : List Declaration) → is_declared all name ≡ true →
    list_all (λ (d : Declaration). p d.variable.name) all ≡ (list_all (λ (d : Declaration). p d.variable.name) all && p name)
known_again p name [] e = cc
known_again p name (d ∷ all) e = go (declares name d) refl e (known_again p name all)
  where
    rest : Bool
    rest = list_all (λ (each : Declaration). p each.variable.name) all

    go : (b : Bool) → declares name d ≡ b → (b || is_declared all name) ≡ true → (is_declared all name ≡ true → rest ≡ (rest && p name)) →
        (p d.variable.name && rest) ≡ ((p d.variable.name && rest) && p name)
    go true h e again =
        let same : d.variable.name ≡ name = (bytes_decides d.variable.name name).0 h in
        absorbed (p d.variable.name) rest ∙ ap (λ n. (p d.variable.name && rest) && p n) same
    go false h e again = behind_one (p d.variable.name) rest (p name) (again e)

module _ (firsts ms : List Mention) (m : Mention) (have : HaveVariables firsts (map said ms)) where
  one_more : (p : List ℕ → Bool) (known : Bool) → known ≡ is_declared (map said ms) m.variable.now.name →
      list_all (λ (each : Mention). p each.variable.now.name) (firsts ++ cond known [] (m ∷ [])) ≡
      (list_all (λ (d : Declaration). p d.variable.name) (map said ms) && p m.variable.now.name)
  one_more p true e =
      ap (list_all (λ (each : Mention). p each.variable.now.name)) (append-nil firsts) ∙ have p ∙ known_again p m.variable.now.name (map said ms) (sym e)
  one_more p false e =
      list_all-append (λ (each : Mention). p each.variable.now.name) firsts (m ∷ [])
      ∙ ap (λ b. list_all (λ (each : Mention). p each.variable.now.name) firsts && b) (and_true (p m.variable.now.name))
      ∙ ap (λ b. b && p m.variable.now.name) (have p)

  all_of_more : (p : List ℕ → Bool) → (list_all (λ (d : Declaration). p d.variable.name) (map said ms) && p m.variable.now.name) ≡
      list_all (λ (d : Declaration). p d.variable.name) (map said (ms ++ m ∷ []))
  all_of_more p =
      ap (λ b. list_all (λ (d : Declaration). p d.variable.name) (map said ms) && b) (sym (and_true (p m.variable.now.name)))
      ∙ sym (list_all-append (λ (d : Declaration). p d.variable.name) (map said ms) (said m ∷ []))
      ∙ ap (list_all (λ (d : Declaration). p d.variable.name)) (sym (said_pushed ms m))

  pub firsts_pushed : (more all : List Mention) (known : Bool) → more ≡ firsts ++ cond known [] (m ∷ []) → known ≡ is_declared (map said ms) m.variable.now.name →
      all ≡ ms ++ m ∷ [] → HaveVariables more (map said all)
  firsts_pushed more all known is e grown p =
      ap (list_all (λ (each : Mention). p each.variable.now.name)) is
      ∙ one_more p known e
      ∙ all_of_more p
      ∙ ap (λ l. list_all (λ (d : Declaration). p d.variable.name) (map said l)) (sym grown)
