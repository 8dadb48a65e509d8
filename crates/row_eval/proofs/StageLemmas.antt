-- What each form of stage finds and visits before others.
use Rattle.std.proofs.Common.{◌≡◌, ℕ, ◌+◌, ◌<◌, cond, List, [], ◌∷◌, ◌++◌, map, take, drop, length, get_or, refl, sym, ap, ◌∙◌, add-one, append_assoc}
use Rattle.std.proofs.Math.Seq.{drop-cons}
use Rattle.std.proofs.lemmas.List.{append-nil, map-append, take_more}
use Rattle.pgq_base.specs.Instances.{InstanceRows}
use Rattle.expr_tree.specs.Leaves.{joined}
use Rattle.sql_algebra.specs.Meaning.{has_none}
use Rattle.row_eval.specs.declared.frame.Condition.{Condition}
use Rattle.row_eval.specs.declared.access.Access.{Access}
use Rattle.row_eval.specs.declared.stage.Stage.{Stage, Stage-F, roll-Stage, fold-Stage, map-Stage, fold-roll-Stage}
use Rattle.row_eval.specs.declared.stage.Stage.TheVariants as v
use Rattle.row_eval.specs.Slots.{Stack}
use Rattle.row_eval.specs.Access.{rows_given}
use Rattle.row_eval.specs.Stages.{all_kept, in_turn, itself, no_visit, found, found_by, found_step, found_on, visits, visits_by, visits_step, visits_on, accesses, accesses_of}
use Rattle.row_eval.specs.Stages.{accesses_step}

at_layer : {A : Type 0} (step : Stage-F A → A) (x : Stage-F Stage) (e : Stage) → roll-Stage x ≡ e → fold-Stage A step e ≡ step (map-Stage Stage A (fold-Stage A step) x)
at_layer {A} step x e is = ap (fold-Stage A step) (sym is) ∙ fold-roll-Stage A step x

in_turn_last : {X : Type 0} (fs : List (X → X)) (f : X → X) (end : X) → in_turn (fs ++ f ∷ []) end ≡ f (in_turn fs end)
in_turn_last [] f end = refl
in_turn_last (g ∷ gs) f end = in_turn_last gs f (g end)

all_in_turn : {X : Type 0} (by : Stage → X → X) (end : X) (stages : List Stage) (stage : Stage) → in_turn (map by (stages ++ stage ∷ [])) end
    ≡ by stage (in_turn (map by stages) end)
all_in_turn by end stages stage = ap (λ fs. in_turn fs end) (map-append by stages (stage ∷ [])) ∙ in_turn_last (map by stages) (by stage) end

module _ (instance : InstanceRows) (s : Stack) where
  found_last : (e rest : List Stage) (stage : Stage) → e ≡ rest ++ stage ∷ [] → found instance e s ≡ found_by instance stage (found instance rest) s
  found_last e rest stage is = ap (λ (l : List Stage). found instance l s) is ∙ ap (λ f. f s) (all_in_turn (found_by instance) itself rest stage)

  pub found-Keep : (e : List Stage) (cs : List Condition) (rest : List Stage) → e ≡ rest ++ v.Keep cs ∷ [] → found instance e s ≡ cond (all_kept cs s) (found instance rest s) []
  found-Keep e cs rest is = found_last e rest (v.Keep cs) is ∙ ap (λ f. f (found instance rest) s) (at_layer (found_step instance) (Stage-F.Keep cs) (v.Keep cs) (v.rolls-Keep cs))

  pub found-Join : (e : List Stage) (access : Access) (rest : List Stage) → e ≡ rest ++ v.Join access ∷ []
      → found instance e s ≡ found_on (found instance rest) s (rows_given instance access s)
  found-Join e access rest is = found_last e rest (v.Join access) is
      ∙ ap (λ f. f (found instance rest) s) (at_layer (found_step instance) (Stage-F.Join access) (v.Join access) (v.rolls-Join access))

  pub found-Absent : (e inner rest : List Stage) → e ≡ rest ++ v.Absent inner ∷ [] → found instance e s ≡ cond (has_none (found instance inner s)) (found instance rest s) []
  found-Absent e inner rest is = found_last e rest (v.Absent inner) is
      ∙ ap (λ f. f (found instance rest) s) (at_layer (found_step instance) (Stage-F.Absent inner) (v.Absent inner) (v.rolls-Absent inner))

  pub found-none : (e : List Stage) → e ≡ [] → found instance e s ≡ s ∷ []
  found-none e is = ap (λ (l : List Stage). found instance l s) is

  visits_last : (e rest : List Stage) (stage : Stage) → e ≡ rest ++ stage ∷ [] → visits instance e s ≡ visits_by instance stage (visits instance rest) s
  visits_last e rest stage is = ap (λ (l : List Stage). visits instance l s) is ∙ ap (λ f. f s) (all_in_turn (visits_by instance) no_visit rest stage)

  pub visits-Keep : (e : List Stage) (cs : List Condition) (rest : List Stage) → e ≡ rest ++ v.Keep cs ∷ [] → visits instance e s ≡ cond (all_kept cs s) (visits instance rest s) 0
  visits-Keep e cs rest is = visits_last e rest (v.Keep cs) is
      ∙ ap (λ f. f (visits instance rest) s) (at_layer (visits_step instance) (Stage-F.Keep cs) (v.Keep cs) (v.rolls-Keep cs))

  pub visits-Join : (e : List Stage) (access : Access) (rest : List Stage) → e ≡ rest ++ v.Join access ∷ []
      → visits instance e s ≡ visits_on (visits instance rest) s (rows_given instance access s)
  visits-Join e access rest is = visits_last e rest (v.Join access) is
      ∙ ap (λ f. f (visits instance rest) s) (at_layer (visits_step instance) (Stage-F.Join access) (v.Join access) (v.rolls-Join access))

  pub visits-Absent : (e inner rest : List Stage) → e ≡ rest ++ v.Absent inner ∷ [] → visits instance e s ≡ visits instance inner s + visits instance rest s
  visits-Absent e inner rest is = visits_last e rest (v.Absent inner) is
      ∙ ap (λ f. f (visits instance rest) s) (at_layer (visits_step instance) (Stage-F.Absent inner) (v.Absent inner) (v.rolls-Absent inner))

  pub visits-none : (e : List Stage) → e ≡ [] → visits instance e s ≡ 0
  visits-none e is = ap (λ (l : List Stage). visits instance l s) is

joined_last : {X : Type 0} (xss : List (List X)) (xs : List X) → joined (xss ++ xs ∷ []) ≡ joined xss ++ xs
joined_last [] xs = append-nil xs
joined_last (ys ∷ yss) xs = ap (λ l. ys ++ l) (joined_last yss xs) ∙ sym (append_assoc ys (joined yss) xs)

accesses_last : (e rest : List Stage) (stage : Stage) → e ≡ rest ++ stage ∷ [] → accesses e ≡ accesses rest ++ accesses_of stage
accesses_last e rest stage is = ap accesses is ∙ ap joined (map-append accesses_of rest (stage ∷ [])) ∙ joined_last (map accesses_of rest) (accesses_of stage)

pub accesses-Keep : (e : List Stage) (cs : List Condition) (rest : List Stage) → e ≡ rest ++ v.Keep cs ∷ [] → accesses e ≡ accesses rest
accesses-Keep e cs rest is = accesses_last e rest (v.Keep cs) is ∙ ap (λ l. accesses rest ++ l) (at_layer accesses_step (Stage-F.Keep cs) (v.Keep cs) (v.rolls-Keep cs))
    ∙ append-nil (accesses rest)

pub stage_accesses-Join : (e : Stage) (access : Access) → e ≡ v.Join access → accesses_of e ≡ access ∷ []
stage_accesses-Join e access is = at_layer accesses_step (Stage-F.Join access) e (v.rolls-Join access ∙ sym is)

pub stage_accesses-Absent : (e : Stage) (inner : List Stage) → e ≡ v.Absent inner → accesses_of e ≡ accesses inner
stage_accesses-Absent e inner is = at_layer accesses_step (Stage-F.Absent inner) e (v.rolls-Absent inner ∙ sym is)

pub accesses-Join : (e : List Stage) (access : Access) (rest : List Stage) → e ≡ rest ++ v.Join access ∷ [] → accesses e ≡ accesses rest ++ access ∷ []
accesses-Join e access rest is = accesses_last e rest (v.Join access) is ∙ ap (λ l. accesses rest ++ l) (stage_accesses-Join (v.Join access) access refl)

pub accesses-Absent : (e inner rest : List Stage) → e ≡ rest ++ v.Absent inner ∷ [] → accesses e ≡ accesses rest ++ accesses inner
accesses-Absent e inner rest is = accesses_last e rest (v.Absent inner) is ∙ ap (λ l. accesses rest ++ l) (stage_accesses-Absent (v.Absent inner) inner refl)

pub drop_next : {X : Type 0} (xs : List X) (i : ℕ) (d : X) → i < length xs → drop i xs ≡ get_or xs i d ∷ drop (i + 1) xs
drop_next xs i d h = rw add-one (drop-cons xs i d h)

-- the first stages of a list and one more
pub one_more : (stages : List Stage) (i : ℕ) (x y : Stage) → i < length stages → x ≡ get_or stages i x → x ≡ y → take (i + 1) stages ≡ take i stages ++ y ∷ []
one_more stages i x y h at is = take_more stages i x h ∙ ap (λ (z : Stage). take i stages ++ z ∷ []) (sym at ∙ is)
