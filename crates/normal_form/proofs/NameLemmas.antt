-- Names that are put together once.
use Rattle.std.proofs.Common.{◌≡◌, ℕ, ◌+◌, ◌<◌, Bool, true, false, ◌&&◌, List, [], ◌∷◌, ◌++◌, map, flat_map, drop, get_or, length, bytes_eq, refl, sym, ap, ◌∙◌, append_assoc}
use Rattle.std.specs.List.{list_any, list_all}
use Rattle.std.proofs.lemmas.List.{drop_more}
use Rattle.std.proofs.lemmas.List.Folds.{list_all-append}
use Rattle.std.proofs.lemmas.Slice.Eq.{bytes_eq-Decides}
use Rattle.graph_meaning.proofs.Members.{some_of, each_of}
use Rattle.normal_form.specs.Rows.{HaveSame}
use Rattle.normal_form.proofs.Gathering.{map-parts}

same_left : (p : List ℕ → Bool) (ns ms : List (List ℕ)) (n : List ℕ) → list_any (bytes_eq n) ns ≡ true → list_all p (ns ++ ms) ≡ list_all p (ns ++ n ∷ ms)
same_left p ns ms n h = list_all-append p ns ms ∙ go (list_all p ns) refl ∙ sym (list_all-append p ns (n ∷ ms))
  where
    go : (b : Bool) → list_all p ns ≡ b → (list_all p ns && list_all p ms) ≡ (list_all p ns && (p n && list_all p ms))
    go true e =
        let some = some_of (bytes_eq n) ns h in
        let is : p n ≡ true = ap p ((bytes_eq-Decides n some.0).0 some.2) ∙ each_of p ns e some.0 some.1 in
        ap (λ b. list_all p ns && (b && list_all p ms)) (sym is)
    go false e = ap (λ b. b && list_all p ms) e ∙ sym (ap (λ b. b && (p n && list_all p ms)) e)

-- one name more, which is among the others or stands behind them
module _ {N : Type 0} (now : N → List ℕ) (more : List N) (i : ℕ) (name : N) (here : i < length more) (at : name ≡ get_or more i name) (names : List N) (whole : List (List ℕ))
    (known : HaveSame (map now names ++ map now (drop i more)) whole) where
  rest_at : map now (drop i more) ≡ now name ∷ map now (drop (i + 1) more)
  rest_at = ap (map now) (drop_more more i name here) ∙ ap (λ n. now n ∷ map now (drop (i + 1) more)) (sym at)

  pub name_added : (longer : List N) → longer ≡ names ++ name ∷ [] → HaveSame (map now longer ++ map now (drop (i + 1) more)) whole
  name_added longer is = λ p.
      ap (λ l. list_all p (map now l ++ map now (drop (i + 1) more))) is
      ∙ ap (λ l. list_all p (l ++ map now (drop (i + 1) more))) (map-parts now names (name ∷ []))
      ∙ ap (list_all p) (append_assoc (map now names) (now name ∷ []) (map now (drop (i + 1) more)) ∙ ap (λ l. map now names ++ l) (sym rest_at))
      ∙ known p

  pub name_known : (others : List N) → others ≡ names → list_any (bytes_eq (now name)) (map now names) ≡ true → HaveSame (map now others ++ map now (drop (i + 1) more)) whole
  name_known others is h = λ p.
      ap (λ l. list_all p (map now l ++ map now (drop (i + 1) more))) is
      ∙ same_left p (map now names) (map now (drop (i + 1) more)) (now name) h ∙ ap (λ l. list_all p (map now names ++ l)) (sym rest_at) ∙ known p

-- the names of one path pattern more
pub names_on : {X : Type 0} (made : X → List (List ℕ)) (xs : List X) (i : ℕ) (x : X) (before after own whole : List (List ℕ)) → i < length xs → x ≡ get_or xs i x
    → own ≡ made x → HaveSame after (before ++ own) → HaveSame (before ++ flat_map made (drop i xs)) whole → HaveSame (after ++ flat_map made (drop (i + 1) xs)) whole
names_on made xs i x before after own whole here at is same known = λ p.
    let rest : List (List ℕ) = flat_map made (drop (i + 1) xs) in
    list_all-append p after rest ∙ ap (λ b. b && list_all p rest) (same p) ∙ sym (list_all-append p (before ++ own) rest)
    ∙ ap (list_all p)
    (append_assoc before own rest ∙ ap (λ l. before ++ l)
    (ap (λ l. l ++ rest) (is ∙ ap made at) ∙ sym (ap (flat_map made) (drop_more xs i x here))))
    ∙ known p
