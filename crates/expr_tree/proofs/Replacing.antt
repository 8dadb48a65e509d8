-- A node is replaced where its children are; and what is known of each replacement is known of the tree that is made of them.
use Rattle.std.proofs.Common.{◌≡◌, ℕ, suc, ◌+◌, ◌<◌, Bool, List, [], ◌∷◌, ◌++◌, map, flat_map, take, get_or, length, add-one, Result, Ok, Err, IfOk, refl, sym, ap, ap₂, subst}
use Rattle.std.proofs.Common.{◌∙◌, append_assoc}
use Rattle.std.specs.List.{AllByRecursion}
use Rattle.std.proofs.lemmas.Grind.{flat_map-append}
use Rattle.std.proofs.lemmas.List.{map-append}
use Rattle.std.proofs.Math.Seq.{take-suc}
use Rattle.pgq_base.specs.declared.memory.NoMemory.{NoMemory}
use Rattle.pgq_base.specs.declared.value.Class.{Class}
use Rattle.pgq_base.specs.declared.value.Value.{Value}
use Rattle.expr_tree.specs.declared.tree.Comparison.{Comparison}
use Rattle.expr_tree.specs.declared.tree.Test.{Test}
use Rattle.expr_tree.specs.declared.tree.Expr.{Expr, Expr-F, map-Expr}
use Rattle.expr_tree.specs.declared.tree.Expr.TheVariants as v
use Rattle.expr_tree.specs.Leaves.{leaves_in, EachLeaf}
use Rattle.expr_tree.specs.Mapping.{map_step, mapped, IsReplacedBy, AreReplacedBy, MayAnswer, AnswersBy}
use Rattle.expr_tree.specs.Meaning.{value_in}
use Rattle.expr_tree.proofs.Folds.{at_layer, parts, each_implies, each_from_all, fused}
use Rattle.expr_tree.proofs.FormLemmas.{values, leaves, replacements}
use Rattle.expr_tree.proofs.LawLemmas.{mapped_value, same_trees, mapped_leaves}
use Rattle.expr_tree.proofs.MapLemmas.{same-InList, same-Between}

together : {X : Type 0} (P : X → Type 0) (xs ys : List X) → AllByRecursion P xs → AllByRecursion P ys → AllByRecursion P (xs ++ ys)
together P [] ys a b = b
together P (x ∷ xs) ys a b = (a.0, together P xs ys a.1 b)

module _ {L M : Type 0} (Allows : L → Expr M → Type 0) where
  abbrev Pair : Type 0
  Pair = L × Expr M

  abbrev Allowed : Pair → Type 0
  Allowed p = Allows p.0 p.1

  pub replaced-Lit : (x : Value) → IsReplacedBy Allows (v.Lit x) (v.Lit x)
  replaced-Lit x = record {
    paired = v.Lit x;
    whole = (replacements (λ (p : Pair). v.Leaf p.0)).literal x;
    replaced = (replacements (λ (p : Pair). p.1)).literal x;
    allowed = subst (AllByRecursion Allowed) (sym (leaves.literal x)) tt;
  }

  pub replaced-Null : (x : Class) → IsReplacedBy Allows (v.Null x) (v.Null x)
  replaced-Null x = record {
    paired = v.Null x;
    whole = (replacements (λ (p : Pair). v.Leaf p.0)).null x;
    replaced = (replacements (λ (p : Pair). p.1)).null x;
    allowed = subst (AllByRecursion Allowed) (sym (leaves.null x)) tt;
  }

  pub replaced-Leaf : (l : L) (m : Expr M) → Allows l m → IsReplacedBy Allows (v.Leaf l) m
  replaced-Leaf l m h = record {
    paired = v.Leaf (l, m);
    whole = (replacements (λ (p : Pair). v.Leaf p.0)).leaf (l, m);
    replaced = (replacements (λ (p : Pair). p.1)).leaf (l, m);
    allowed = subst (AllByRecursion Allowed) (sym (leaves.leaf (l, m))) (h, tt);
  }

  pub replaced-Compare : (op : Comparison) (a b : Expr L) (x y : Expr M) → IsReplacedBy Allows a x → IsReplacedBy Allows b y
      → IsReplacedBy Allows (v.Compare op a b) (v.Compare op x y)
  replaced-Compare op a b x y p q = record {
    paired = v.Compare op p.paired q.paired;
    whole = (replacements (λ (p : Pair). v.Leaf p.0)).compare op p.paired q.paired ∙ ap₂ (v.Compare op) p.whole q.whole;
    replaced = (replacements (λ (p : Pair). p.1)).compare op p.paired q.paired ∙ ap₂ (v.Compare op) p.replaced q.replaced;
    allowed = subst (AllByRecursion Allowed) (sym (leaves.compare op p.paired q.paired)) (together Allowed _ _ p.allowed q.allowed);
  }

  pub replaced-All : (es : List (Expr L)) (ys : List (Expr M)) → AreReplacedBy Allows es ys → IsReplacedBy Allows (v.All es) (v.All ys)
  replaced-All es ys r = record {
    paired = v.All r.paired;
    whole = (replacements (λ (p : Pair). v.Leaf p.0)).all r.paired ∙ ap v.All r.whole;
    replaced = (replacements (λ (p : Pair). p.1)).all r.paired ∙ ap v.All r.replaced;
    allowed = subst (AllByRecursion Allowed) (sym (leaves.all r.paired)) r.allowed;
  }

  pub replaced-Any : (es : List (Expr L)) (ys : List (Expr M)) → AreReplacedBy Allows es ys → IsReplacedBy Allows (v.Any es) (v.Any ys)
  replaced-Any es ys r = record {
    paired = v.Any r.paired;
    whole = (replacements (λ (p : Pair). v.Leaf p.0)).any r.paired ∙ ap v.Any r.whole;
    replaced = (replacements (λ (p : Pair). p.1)).any r.paired ∙ ap v.Any r.replaced;
    allowed = subst (AllByRecursion Allowed) (sym (leaves.any r.paired)) r.allowed;
  }

  pub replaced-Coalesce : (es : List (Expr L)) (ys : List (Expr M)) → AreReplacedBy Allows es ys → IsReplacedBy Allows (v.Coalesce es) (v.Coalesce ys)
  replaced-Coalesce es ys r = record {
    paired = v.Coalesce r.paired;
    whole = (replacements (λ (p : Pair). v.Leaf p.0)).coalesce r.paired ∙ ap v.Coalesce r.whole;
    replaced = (replacements (λ (p : Pair). p.1)).coalesce r.paired ∙ ap v.Coalesce r.replaced;
    allowed = subst (AllByRecursion Allowed) (sym (leaves.coalesce r.paired)) r.allowed;
  }

  pub replaced-Not : (a : Expr L) (x : Expr M) → IsReplacedBy Allows a x → IsReplacedBy Allows (v.Not a) (v.Not x)
  replaced-Not a x p = record {
    paired = v.Not p.paired;
    whole = (replacements (λ (p : Pair). v.Leaf p.0)).negation p.paired ∙ ap v.Not p.whole;
    replaced = (replacements (λ (p : Pair). p.1)).negation p.paired ∙ ap v.Not p.replaced;
    allowed = subst (AllByRecursion Allowed) (sym (leaves.negation p.paired)) p.allowed;
  }

  pub replaced-Is : (a : Expr L) (x : Expr M) (t : Test) (n : Bool) → IsReplacedBy Allows a x → IsReplacedBy Allows (v.Is a t n) (v.Is x t n)
  replaced-Is a x t n p = record {
    paired = v.Is p.paired t n;
    whole = (replacements (λ (p : Pair). v.Leaf p.0)).test p.paired t n ∙ ap (λ z. v.Is z t n) p.whole;
    replaced = (replacements (λ (p : Pair). p.1)).test p.paired t n ∙ ap (λ z. v.Is z t n) p.replaced;
    allowed = subst (AllByRecursion Allowed) (sym (leaves.test p.paired t n)) p.allowed;
  }

  pub replaced-InList : (a : Expr L) (es : List (Expr L)) (x : Expr M) (ys : List (Expr M)) (n : Bool)
      → IsReplacedBy Allows a x → AreReplacedBy Allows es ys → IsReplacedBy Allows (v.InList a es n) (v.InList x ys n)
  replaced-InList a es x ys n p r = record {
    paired = v.InList p.paired r.paired n;
    whole = (replacements (λ (p : Pair). v.Leaf p.0)).in_list p.paired r.paired n ∙ same-InList _ _ _ _ n p.whole r.whole;
    replaced = (replacements (λ (p : Pair). p.1)).in_list p.paired r.paired n ∙ same-InList _ _ _ _ n p.replaced r.replaced;
    allowed = subst (AllByRecursion Allowed) (sym (leaves.in_list p.paired r.paired n)) (together Allowed _ _ p.allowed r.allowed);
  }

  pub replaced-Between : (a b c : Expr L) (x y z : Expr M) (n : Bool)
      → IsReplacedBy Allows a x → IsReplacedBy Allows b y → IsReplacedBy Allows c z → IsReplacedBy Allows (v.Between a b c n) (v.Between x y z n)
  replaced-Between a b c x y z n p q r = record {
    paired = v.Between p.paired q.paired r.paired n;
    whole = (replacements (λ (p : Pair). v.Leaf p.0)).between p.paired q.paired r.paired n ∙ same-Between _ _ _ _ _ _ n p.whole q.whole r.whole;
    replaced = (replacements (λ (p : Pair). p.1)).between p.paired q.paired r.paired n ∙ same-Between _ _ _ _ _ _ n p.replaced q.replaced r.replaced;
    allowed = subst (AllByRecursion Allowed) (sym (leaves.between p.paired q.paired r.paired n)) (together Allowed _ _ p.allowed (together Allowed _ _ q.allowed r.allowed));
  }

  pub replaced_none : AreReplacedBy Allows [] []
  replaced_none = record { paired = []; whole = refl; replaced = refl; allowed = tt }

  pub replaced_next : (es : List (Expr L)) (ys : List (Expr M)) (e : Expr L) (y : Expr M)
      → AreReplacedBy Allows es ys → IsReplacedBy Allows e y → AreReplacedBy Allows (es ++ e ∷ []) (ys ++ y ∷ [])
  replaced_next es ys e y r p = record {
    paired = r.paired ++ p.paired ∷ [];
    whole = map-append _ r.paired (p.paired ∷ []) ∙ ap₂ (λ l z. l ++ z ∷ []) r.whole p.whole;
    replaced = map-append _ r.paired (p.paired ∷ []) ∙ ap₂ (λ l z. l ++ z ∷ []) r.replaced p.replaced;
    allowed = subst (AllByRecursion Allowed) (sym (flat_map-append leaves_in r.paired (p.paired ∷ []))) (together Allowed _ _ r.allowed (together Allowed _ [] p.allowed tt));
  }

  pub replaced_step : (es : List (Expr L)) (old new : List (Expr M)) (i : ℕ) (e : Expr L) (y : Expr M)
      → new ≡ old ++ y ∷ [] → e ≡ get_or es i e → i < length es → AreReplacedBy Allows (take i es) old → IsReplacedBy Allows e y → AreReplacedBy Allows (take (i + 1) es) new
  replaced_step es old new i e y pushed is within r p =
      let longer : take (i + 1) es ≡ take i es ++ e ∷ [] = rw add-one (take-suc es i e within) ∙ ap (λ z. take i es ++ z ∷ []) (sym is) in
      subst (AreReplacedBy Allows (take (i + 1) es)) (sym pushed) (subst (λ l. AreReplacedBy Allows l (old ++ y ∷ [])) (sym longer) (replaced_next (take i es) old e y r p))

  -- of equal trees
  pub along : (e x : Expr L) (made y : Expr M) → e ≡ x → made ≡ y → IsReplacedBy Allows x y → IsReplacedBy Allows e made
  along e x made y p q r = subst (λ z. IsReplacedBy Allows z made) (sym p) (subst (IsReplacedBy Allows x) (sym q) r)

-- ---- what is known of each replacement

-- a tree whose leaves are replaced twice is one whose leaves are replaced by what replaces the first replacement
module _ {K L M : Type 0} (first : K → Expr L) (second : L → Expr M) where
  twice_each : (x : Expr-F K (Expr L)) → mapped second (map_step first x) ≡ map_step (λ k. mapped second (first k)) (map-Expr K (Expr L) (Expr M) (mapped second) x)
  twice_each (Expr-F.Lit x) = at_layer (map_step second) (Expr-F.Lit x) _ (v.rolls-Lit x)
  twice_each (Expr-F.Null c) = at_layer (map_step second) (Expr-F.Null c) _ (v.rolls-Null c)
  twice_each (Expr-F.Leaf l) = refl
  twice_each (Expr-F.Compare op a b) = at_layer (map_step second) (Expr-F.Compare op a b) _ (v.rolls-Compare op a b)
  twice_each (Expr-F.All es) = at_layer (map_step second) (Expr-F.All es) _ (v.rolls-All es)
  twice_each (Expr-F.Any es) = at_layer (map_step second) (Expr-F.Any es) _ (v.rolls-Any es)
  twice_each (Expr-F.Not a) = at_layer (map_step second) (Expr-F.Not a) _ (v.rolls-Not a)
  twice_each (Expr-F.Is a t n) = at_layer (map_step second) (Expr-F.Is a t n) _ (v.rolls-Is a t n)
  twice_each (Expr-F.InList a es n) = at_layer (map_step second) (Expr-F.InList a es n) _ (v.rolls-InList a es n)
  twice_each (Expr-F.Between a b c n) = at_layer (map_step second) (Expr-F.Between a b c n) _ (v.rolls-Between a b c n)
  twice_each (Expr-F.Coalesce es) = at_layer (map_step second) (Expr-F.Coalesce es) _ (v.rolls-Coalesce es)

  pub mapped_again : (e : Expr K) → mapped second (mapped first e) ≡ mapped (λ k. mapped second (first k)) e
  mapped_again = fused (mapped second) (map_step first) (map_step (λ k. mapped second (first k))) twice_each

module _ {L M : Type 0} (Allows : L → Expr M → Type 0) where
  -- what holds of each leaf, of the leaves that stand beside their replacements
  of_firsts : (P : L → Type 0) (ps : List (L × Expr M)) → AllByRecursion P (flat_map (λ p. leaves_in (v.Leaf p.0)) ps) → AllByRecursion (λ p. P p.0) ps
  of_firsts P [] h = tt
  of_firsts P (p ∷ ps) h =
      let both = parts P (leaves_in (v.Leaf p.0)) (flat_map (λ q. leaves_in (v.Leaf q.0)) ps) h in
      ((subst (AllByRecursion P) (leaves.leaf p.0) both.0).0, of_firsts P ps both.1)

  each_pair : (P : L → Type 0) (Q : L × Expr M → Type 0) → ((p : L × Expr M) → Allows p.0 p.1 → P p.0 → Q p) → (ps : List (L × Expr M))
      → AllByRecursion (λ p. Allows p.0 p.1) ps → AllByRecursion (λ p. P p.0) ps → AllByRecursion Q ps
  each_pair P Q f [] a b = tt
  each_pair P Q f (p ∷ ps) a b = (f p a.0 b.0, each_pair P Q f ps a.1 b.1)

  -- a fact on a leaf and its replacement, at each pair
  at_pairs : (P : L → Type 0) (Q : L × Expr M → Type 0) (e : Expr L) (made : Expr M) → ((p : L × Expr M) → Allows p.0 p.1 → P p.0 → Q p)
      → (r : IsReplacedBy Allows e made) → EachLeaf P e → EachLeaf Q r.paired
  at_pairs P Q e made f r h =
      let own : AllByRecursion P (leaves_in (mapped (λ p. v.Leaf p.0) r.paired)) = subst (λ z. AllByRecursion P (leaves_in z)) (sym r.whole) h in
      each_pair P Q f (leaves_in r.paired) r.allowed (of_firsts P (leaves_in r.paired) (subst (AllByRecursion P) (mapped_leaves (λ p. v.Leaf p.0) r.paired) own))

  pub replaced_tree : (to : L → Expr M) (e : Expr L) (made : Expr M) → IsReplacedBy Allows e made → EachLeaf (λ l. (m : Expr M) → Allows l m → m ≡ to l) e → made ≡ mapped to e
  replaced_tree to e made r h =
      sym r.replaced ∙ same_trees (λ p. p.1) (λ p. to p.0) r.paired (at_pairs _ (λ p. p.1 ≡ to p.0) e made (λ p a b. b p.1 a) r h)
      ∙ sym (same_trees (λ p. mapped to (v.Leaf p.0)) (λ p. to p.0) r.paired (each_from_all _ (λ p. (replacements to).leaf p.0) (leaves_in r.paired)))
      ∙ sym (mapped_again (λ p. v.Leaf p.0) to r.paired) ∙ ap (mapped to) r.whole

  pub replaced_value : (env : M → Value) (after : L → Value) (e : Expr L) (made : Expr M) → IsReplacedBy Allows e made
      → EachLeaf (λ l. (m : Expr M) → Allows l m → value_in env m ≡ after l) e → value_in env made ≡ value_in after e
  replaced_value env after e made r h =
      ap (value_in env) (sym r.replaced)
      ∙ mapped_value (λ p. p.1) env (λ p. after p.0) r.paired (at_pairs _ (λ p. value_in env p.1 ≡ after p.0) e made (λ p a b. b p.1 a) r h)
      ∙ sym (mapped_value (λ p. v.Leaf p.0) after (λ p. after p.0) r.paired (each_from_all _ (λ p. (values after).leaf p.0) (leaves_in r.paired)))
      ∙ ap (value_in after) r.whole

-- trees that a closure may answer, where each of them is `to`'s
pub answered_tree : {L M : Type 0} (answers : L → Result (Expr M) NoMemory → Type 0) (to : L → Expr M) (e : Expr L) (made : Expr M)
    → IsReplacedBy (MayAnswer answers) e made → EachLeaf (AnswersBy answers to) e → made ≡ mapped to e
answered_tree answers to e made r h =
    replaced_tree (MayAnswer answers) to e made r (each_implies (AnswersBy answers to) (λ l. (m : Expr _) → answers l (Ok m) → m ≡ to l) (λ l b m a. b (Ok m) a) (leaves_in e) h)

pub each_answer : {L M : Type 0} (answers : L → Result (Expr M) NoMemory → Type 0) (e : Expr L) (r : Result (Expr M) NoMemory)
    → IfOk r (λ made. IsReplacedBy (MayAnswer answers) e made) → IfOk r (λ made. (to : L → Expr M) → EachLeaf (AnswersBy answers to) e → made ≡ mapped to e)
each_answer answers e (Ok made) h = λ to each. answered_tree answers to e made h each
each_answer answers e (Err x) h = tt
