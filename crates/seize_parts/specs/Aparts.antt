-- What is put apart while all is reclaimed, and what is known of each part of that where a collector is in one caller's hands.
--     values_put_in had, words_put_in had     the values that were put with those that were had, in order, and the words kept of these
--     IsBehind n vs ks had queue     in the queue wait values of the list n: these, with these words, and then what was put with those
--                            that were had
--     WaitsBehind n had queue queue'     what was put with them waits behind what waited before;  AreWaiting code queue vs     in the queue
--                            these values wait, each with its kind
--     MayDrain code n queue  what waits in the queue may go to the reclaimer: values of the list n, each with a content and a kind
--     KeepsAside aside aside'    it is the same watch
--     DidApart code puts told sees n had aside aside'     the reclaimer had this and put as `puts` says; what it put waits, and the watch
--                            was told
--     Fits pass st           the state has the size of the pass, and the links of the pass's list begin with values that differ
--     MayGo pass places st   it fits, and what lies in these places is what the state says
--     MayPart pass n places st     it fits, and what lies in place n is what the state says
--     IsIn pass s place st   it fits, and slot s is in use there; what lies in its place is this
--     AreKeptOf kept st      just the slots that are in use there are kept, and none of them has a guard
--     MovesToKept n places kept kept'     what lies in place n is kept then in place n of these, and else nothing is changed
--     LeadsHands code May does pass pass'     where the hands hold a state of which `May` says so, they hold the one that `does` gives of
--                            it, by the same names and kinds
--     IsSomeHeld code pass May     the hands hold some state of which `May` says so, as the pass has seen
--     Goes code puts told May does pass pass' seen seen' queue queue'     where the hands hold a state of which `May` says so, they hold
--                            the one that `does` gives of it. What the reclaimer had are the values that are gone then; it put as `puts`
--                            says, what it put waits, and the watch was told
--     GoesAll                so it is where all is reclaimed with what is put, and the watch was told of that too
use Rattle.std.specs.Prelude.{◌≡◌, ℕ, true, false, not, ◌&&◌, ◌==◌, None, Option, List, [], ◌∷◌, ◌++◌, get_or, length, map, option_map}
use Rattle.std.specs.Option.{is_none}
use base.Stored.{Gv}
use Rattle.seize_machine.specs.Machine.State.{are_distinct, linked_values}
use Rattle.seize_model.specs.Waiting.Attempt.{StateAndGone}
use Rattle.seize_model.specs.Waiting.Calls.{is_free, reclaim_all}
use Rattle.seize_model.specs.Waiting.State.{ModelState, has_guard, model_slot}
use Rattle.seize_book.specs.Kept.{kepts_of}
use Rattle.seize_book.specs.Passes.{IsSamePass}
use Rattle.seize_book.specs.Tokens.{Name}
use Rattle.seize_book.specs.Values.{values_of}
use Rattle.seize_book.specs.declared.book.pass.Pass.{Pass}
use Rattle.seize_calls.specs.Furthers.{further_in}
use Rattle.seize_calls.specs.Handing.{Had, IsServed}
use Rattle.seize_calls.specs.declared.further.Further.{Further}
use Rattle.seize_calls.specs.declared.slot.Slot.{Slot}
use Rattle.seize_alone.specs.Gone.{AreNamesOf, PutAs}
use Rattle.seize_alone.specs.Holding.{Holds, HoldsThen}
use Rattle.seize_parts.specs.Places.{LiesThen}
use Rattle.seize_parts.specs.Placing.{ArePlaces, AreSound, lies_for, lying_in, what_lies_in}
use Rattle.seize_parts.specs.Told.{HasTold, told_of}
use Rattle.seize_parts.specs.declared.alone.aside.Aside.{Aside}
use Rattle.seize_parts.specs.declared.alone.place.Place.{Place}

abbrev pub values_put_in : Had → List ℕ
values_put_in [] = []
values_put_in (one ∷ had) = one.2 ++ values_put_in had

abbrev pub words_put_in : Had → List ℕ
words_put_in [] = []
words_put_in (one ∷ had) = one.3 ++ words_put_in had

pub record IsBehind (n : Name) (vs ks : List ℕ) (had : Had) (queue : Further) : Type 0 where
  pub served : IsServed (further_in queue) n
  pub values : values_of (further_in queue) ≡ vs ++ values_put_in had
  pub words : kepts_of (further_in queue) ≡ ks ++ words_put_in had

pub record WaitsBehind (n : Name) (had : Had) (queue queue' : Further) : Type 0 where
  pub served : IsServed (further_in queue') n
  pub values : values_of (further_in queue') ≡ values_of (further_in queue) ++ values_put_in had
  pub words : kepts_of (further_in queue') ≡ kepts_of (further_in queue) ++ words_put_in had

abbrev pub KeepsAside : {W : Type 0} → Aside W → Aside W → Type 0
KeepsAside aside aside' = aside'.watch.ghost_name ≡ aside.watch.ghost_name

pub record DidApart {T W Seen : Type 0} (code : T → Gv) (puts : ℕ → T → List T) (told : Seen → T → Seen) (sees : W → Seen) (n : Name)
    (had : Had) (aside aside' : Aside W) : Type 0 where
  pub put : PutAs code puts had
  pub tells : HasTold code told (sees aside.watch.now) (sees aside'.watch.now) had
  pub waits : WaitsBehind n had aside.queue aside'.queue

abbrev pub AreWaiting : {T : Type 0} → (T → Gv) → Further → List (T × ℕ) → Type 0
AreWaiting {T} code queue vs =
    AreNamesOf code (values_of (further_in queue)) (map (λ (v : T × ℕ). v.0) vs)
    × (kepts_of (further_in queue) ≡ map (λ (v : T × ℕ). v.1) vs)

abbrev pub MayDrain : {T : Type 0} → (T → Gv) → Name → Further → Type 0
MayDrain {T} code n queue = IsServed (further_in queue) n × ((vs : List (T × ℕ)) × AreWaiting code queue vs)

abbrev pub Fits : {T : Type 0} → Pass → ModelState T ℕ → Type 0
Fits pass st = (st.size ≡ pass.size) × (are_distinct (linked_values pass.name.links) ≡ true)

abbrev pub MayGo : {T : Type 0} → Pass → List (Option (Place T)) → ModelState T ℕ → Type 0
MayGo pass places st = Fits pass st × ArePlaces pass.name st places

abbrev pub MayPart : {T : Type 0} → Pass → ℕ → List (Option (Place T)) → ModelState T ℕ → Type 0
MayPart pass n places st =
    Fits pass st × (option_map what_lies_in (get_or places n None) ≡ lies_for pass.name (model_slot st n) n) × AreSound places

abbrev pub IsIn : {T : Type 0} → Pass → ℕ → Place T → ModelState T ℕ → Type 0
IsIn pass s place st = Fits pass st × (is_free (model_slot st s).kind ≡ false) × LiesThen place (lying_in pass.name (model_slot st s) s)

abbrev pub IsSomeHeld : {T : Type 0} → (T → Gv) → Pass → (ModelState T ℕ → Type 0) → Type 0
IsSomeHeld {T} code pass May =
    (st : ModelState T ℕ) × (names : List (ℕ × T)) × (kinds : List (ℕ × ℕ)) × Holds code st names kinds pass.name pass.seen × May st

abbrev pub AreKeptOf : {T : Type 0} → List (Option (Slot T)) → ModelState T ℕ → Type 0
AreKeptOf kept st =
    (s : ℕ) → (is_none (get_or kept s None) ≡ is_free (model_slot st s).kind)
    × (is_free (model_slot st s).kind ≡ false → has_guard (model_slot st s) ≡ false)

abbrev pub MovesToKept : {T : Type 0} → ℕ → List (Option (Place T)) → List (Option (Slot T)) → List (Option (Slot T)) → Type 0
MovesToKept n places kept kept' =
    (length kept' ≡ length kept)
    × ((i : ℕ) → is_none (get_or kept' i None)
    ≡ (is_none (get_or kept i None) && not ((i == n) && not (is_none (get_or places n None)))))

abbrev pub LeadsHands : {T : Type 0} → (T → Gv) → (ModelState T ℕ → Type 0) → (ModelState T ℕ → ModelState T ℕ) → Pass → Pass → Type 0
LeadsHands {T} code May does pass pass' =
    (st : ModelState T ℕ) (names : List (ℕ × T)) (kinds : List (ℕ × ℕ)) → May st → Holds code st names kinds pass.name pass.seen
    → Holds code (does st) names kinds pass'.name pass'.seen

pub record Goes {T Seen : Type 0} (code : T → Gv) (puts : ℕ → T → List T) (told : Seen → T → Seen) (May : ModelState T ℕ → Type 0)
    (does : ModelState T ℕ → StateAndGone T ℕ) (pass pass' : Pass) (seen seen' : Seen) (queue queue' : Further) : Type 0 where
  pub same : IsSamePass pass pass'
  pub had : Had
  pub put : PutAs code puts had
  pub tells : HasTold code told seen seen' had
  pub waits : WaitsBehind pass.name had queue queue'
  pub holds : (st : ModelState T ℕ) (names : List (ℕ × T)) (kinds : List (ℕ × ℕ)) → May st → Holds code st names kinds pass.name pass.seen
      → HoldsThen code (does st) had pass'

abbrev pub GoesAll : {T Seen : Type 0} → (T → Gv) → (ℕ → T → List T) → (T → ℕ) → (Seen → T → Seen) → (ModelState T ℕ → Type 0)
    → Pass → Pass → Seen → Seen → Type 0
GoesAll {T} code puts weight told May pass pass' seen seen' =
    (st : ModelState T ℕ) (names : List (ℕ × T)) (kinds : List (ℕ × ℕ)) → May st → Holds code st names kinds pass.name pass.seen
    → let all = reclaim_all puts weight st in
    ((names' : List (ℕ × T)) × (kinds' : List (ℕ × ℕ)) × Holds code all.0 names' kinds' pass'.name pass'.seen)
    × (seen' ≡ told_of told seen all.1)
