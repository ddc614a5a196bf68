-- Calls for a collector: one more, and groups taken from the front.
use Rattle.std.proofs.Common.{◌≡◌, ℕ, suc, List, [], ◌∷◌, ◌++◌, All, sym, subst, arith}
use Rattle.seize.specs.Alones.{IsSame, View}
use Rattle.seize.specs.Running.{IsFor, AreFor}
use Rattle.seize.specs.declared.alone.running.Call.{Call}
use Rattle.seize_script.specs.declared.value.Value.{Value}
use Rattle.seize_script.specs.declared.script.Group.{Group}
use Rattle.seize_script.specs.Ranges.{AreCallsFor, IsCallFor, IsGroupFor}
use Rattle.seize_script.specs.Values.{owners_of}

for_pushed : {T : Type 0} (owners : T → List (List ℕ)) (store : List ℕ) (links : ℕ) (calls : List (Call T)) (call : Call T)
    → AreFor owners store links calls → IsFor owners store links call → AreFor owners store links (calls ++ call ∷ [])
for_pushed owners store links [] call all one = (one, tt)
for_pushed owners store links (first ∷ calls) call all one = (all.0, for_pushed owners store links calls call all.1 one)

-- one call more, beside groups that were for the collector
pub ready_pushed : (alone later : View Value) (groups : List Group) (calls more : List (Call Value)) (call : Call Value)
    → later ≡ alone → All (IsGroupFor alone) groups → AreCallsFor alone calls → IsCallFor alone call
    → more ≡ calls ++ call ∷ [] → All (IsGroupFor later) groups × AreCallsFor later more
ready_pushed alone later groups calls more call e all each one pushed =
    subst (λ a. All (IsGroupFor a) groups × AreCallsFor a more) (sym e) (
      all,
      subst (λ (cs : List (Call Value)). AreCallsFor alone cs) (sym pushed)
          (for_pushed owners_of alone.book.store alone.links calls call each one),
    )

-- the first of several groups, and the others, while the collector is the same
pub group_taken : (alone later : View Value) (groups rest : List Group) (group : Group)
    → groups ≡ group ∷ rest → All (IsGroupFor alone) groups → IsSame alone later → IsGroupFor alone group × All (IsGroupFor later) rest
group_taken alone later groups rest group e all same =
    let each : All (IsGroupFor alone) (group ∷ rest) = subst (λ (gs : List Group). All (IsGroupFor alone) gs) e all in
    (each 0 group (omega arith), λ k d l. rw (same.0, same.3) (each (suc k) d (omega (arith, l))))
