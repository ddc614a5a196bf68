-- Every list of the events of a call goes as the call does.
use Rattle.std.proofs.Common.{◌≡◌, ℕ, ◌<◌, true, false, List, [], ◌∷◌, ◌++◌, length, Some, None, refl, sym, ◌∙◌, ap, subst, append_assoc, append-nil, option_to_list}
use Rattle.seize_machine.specs.Machine.State.{State, Rest}
use Rattle.seize_machine.specs.Machine.Event.{Event, Hand, Return}
use Rattle.seize_machine.specs.Machine.Next.{next, are_fresh}
use Rattle.seize_machine.specs.Machine.History.{handed_value, handed}
use Rattle.seize_machine.specs.declared.machine.event.Answer.{Answer}
use Rattle.seize_machine.specs.declared.machine.event.Answer.TheVariants.{Done, Handed}
use Rattle.seize_model.specs.Waiting.Further.{put_by}
use Rattle.seize_model.specs.Agreement.Shows.{StandFor}
use Rattle.seize_model.specs.Agreement.Play.{play}
use Rattle.seize_model.specs.Agreement.Events.{IsToReturn, is_return, IsPutBy, ArePutBy}
use Rattle.seize_model.proofs.Simulation.Events.{busy, at_rest, with_gone, hand_step, return_step}
use Rattle.seize_model.proofs.Simulation.Determinism.{Only, only_hand, only_return}
use Rattle.seize_model.proofs.Simulation.Coupling.{Denote}
use Rattle.seize_model.proofs.Simulation.Views.{with_reclaimers, denote_for}
use Rattle.seize_model.proofs.Simulation.Paths.{IsOwn, Carried}
use Rattle.seize_model.proofs.Simulation.Names.{Always, all_always}
use Rattle.seize_model.proofs.Simulation.Plays.{First, first_of, both_same, play_none, handed_first}

-- What is left of a list of events to a return, where these values were handed before and those are handed in all.
pub record Left {T R : Type 0} (puts : R → T → List T) (of : ℕ → T) (by : ℕ → R) (size s : ℕ) (end : State) (total : List ℕ) (st : State) (hs : List ℕ) : Type 0 where
  pub events : List Event
  pub answers : List Answer
  pub own : IsToReturn s events
  pub legal : play size st events ≡ Some (end, answers)
  pub put : ArePutBy puts of by events answers
  pub all : hs ++ handed answers ≡ total

pub left_carried : {T R : Type 0} (puts : R → T → List T) (of : ℕ → T) (by : ℕ → R) (size s : ℕ) (end : State) (total : List ℕ)
    → Carried puts (with_reclaimers of by) Always s size (Left puts of by size s end total)
left_carried {T} {R} puts of by size s end total = record {
  closed = λ v holds. all_always (put_by puts v);
  forced = λ st later e answer hs n h own only k. on st later e answer hs n h own only k.events k.answers k.own k.legal k.put k.all;
  hands = λ base v x batch given walk queue hs h stand holds k. hand_on base v x batch given walk queue hs h stand k.events k.answers k.own k.legal k.put k.all;
}
  where
    on : (st later : State) (e : Event) (answer : Answer) (hs : List ℕ) → next size st e ≡ Some (later, answer) → handed_value answer ≡ None → IsOwn s e → Only size s st e
        → (events : List Event) (answers : List Answer) → IsToReturn s events → play size st events ≡ Some (end, answers) → ArePutBy puts of by events answers → hs ++ handed answers ≡ total
        → Left puts of by size s end total later hs
    on st later e answer hs n h own only _ answers IsToReturn.returns legal put all =
        let first : First size st (Return s) [] end answers = first_of size st (Return s) [] end answers legal in
        let same : Return s ≡ e = only (Return s) (first.later, first.answer) refl refl first.step in
        absurd (let c : true ≡ false = ap is_return same ∙ own.2 in cc)
    on st later e answer hs n h own only _ answers (IsToReturn.goes_on other es of_s apart not_return more) legal put all =
        let first : First size st other es end answers = first_of size st other es end answers legal in
        let same : other ≡ e = only other (first.later, first.answer) of_s apart first.step in
        let both : (first.later ≡ later) × (first.answer ≡ answer) = both_same (first.later, first.answer) (later, answer) (sym first.step ∙ ap (λ (x : Event). next size st x) same ∙ n) in
        let none : handed answers ≡ handed first.rest = ap handed first.all ∙ handed_first first.answer first.rest ∙ ap (λ (a : Answer). option_to_list (handed_value a) ++ handed first.rest) both.1 ∙ ap (λ o. option_to_list o ++ handed first.rest) h in
        let puts_all : ArePutBy puts of by (other ∷ es) (first.answer ∷ first.rest) = subst (λ (l : List Answer). ArePutBy puts of by (other ∷ es) l) first.all put in
        record {
          events = es;
          answers = first.rest;
          own = more;
          legal = ap (λ (x : State). play size x es) (sym both.0) ∙ first.legal;
          put = puts_all.1;
          all = ap (λ (l : List ℕ). hs ++ l) (sym none) ∙ all;
        }

    hand_on : (base : State) (v : ℕ) (x : T × R) (batch given walk queue hs : List ℕ) → s < length base.slots → (of v, by v) ≡ x
        → (events : List Event) (answers : List Answer) → IsToReturn s events → play size (busy base s batch (Rest (v ∷ given) walk) queue) events ≡ Some (end, answers) → ArePutBy puts of by events answers → hs ++ handed answers ≡ total
        → (ns : List ℕ) × Denote (with_reclaimers of by) ns (put_by puts x) × Left puts of by size s end total (busy (with_gone base v ns) s batch (Rest given walk) (queue ++ ns)) (hs ++ v ∷ [])
    hand_on base v x batch given walk queue hs h stand _ answers IsToReturn.returns legal put all =
        let first : First size (busy base s batch (Rest (v ∷ given) walk) queue) (Return s) [] end answers = first_of size _ (Return s) [] end answers legal in
        let only : (ns : List ℕ) × (Return s ≡ Hand s ns) × (are_fresh base.named ns ≡ true) = only_hand size base s v batch given walk queue h (Return s) (first.later, first.answer) refl refl first.step in
        absurd (let c : true ≡ false = ap is_return only.1 in cc)
    hand_on base v x batch given walk queue hs h stand _ answers (IsToReturn.goes_on other es of_s apart not_return more) legal put all =
        let first : First size (busy base s batch (Rest (v ∷ given) walk) queue) other es end answers = first_of size _ other es end answers legal in
        let only : (ns : List ℕ) × (other ≡ Hand s ns) × (are_fresh base.named ns ≡ true) = only_hand size base s v batch given walk queue h other (first.later, first.answer) of_s apart first.step in
        let both : (first.later ≡ busy (with_gone base v only.0) s batch (Rest given walk) (queue ++ only.0)) × (first.answer ≡ Handed v)
        = both_same (first.later, first.answer) (busy (with_gone base v only.0) s batch (Rest given walk) (queue ++ only.0), Handed v)
        (sym first.step ∙ ap (λ (e : Event). next size (busy base s batch (Rest (v ∷ given) walk) queue) e) only.1 ∙ hand_step size base s v only.0 batch given walk queue h only.2) in
        let one : handed answers ≡ v ∷ handed first.rest = ap handed first.all ∙ handed_first first.answer first.rest ∙ ap (λ (a : Answer). option_to_list (handed_value a) ++ handed first.rest) both.1 in
        let puts_all : ArePutBy puts of by (other ∷ es) (first.answer ∷ first.rest) = subst (λ (l : List Answer). ArePutBy puts of by (other ∷ es) l) first.all put in
        let puts_v : StandFor of by only.0 (put_by puts (of v, by v)) = subst (λ (a : Answer). IsPutBy puts of by (Hand s only.0) a) both.1 (subst (λ (e : Event). IsPutBy puts of by e first.answer) only.1 puts_all.0) in (
          only.0,
          denote_for of by only.0 (put_by puts x) (puts_v ∙ ap (put_by puts) stand),
          record {
            events = es;
            answers = first.rest;
            own = more;
            legal = ap (λ (k : State). play size k es) (sym both.0) ∙ first.legal;
            put = puts_all.1;
            all = append_assoc hs (v ∷ []) (handed first.rest) ∙ ap (λ (l : List ℕ). hs ++ l) (sym one) ∙ all;
          },
        )

-- the return
pub left_returns : {T R : Type 0} (puts : R → T → List T) (of : ℕ → T) (by : ℕ → R) (size s : ℕ) (end : State) (total : List ℕ) (base : State) (batch hs : List ℕ) → s < length base.slots
    → Left puts of by size s end total (busy base s batch (Rest [] []) []) hs → (end ≡ at_rest base s batch) × (hs ≡ total)
left_returns puts of by size s end total base batch hs h k = go k.events k.answers k.own k.legal k.all
  where
    go : (events : List Event) (answers : List Answer) → IsToReturn s events → play size (busy base s batch (Rest [] []) []) events ≡ Some (end, answers) → hs ++ handed answers ≡ total → (end ≡ at_rest base s batch) × (hs ≡ total)
    go _ answers IsToReturn.returns legal all =
        let first : First size (busy base s batch (Rest [] []) []) (Return s) [] end answers = first_of size _ (Return s) [] end answers legal in
        let both : (first.later ≡ at_rest base s batch) × (first.answer ≡ Done) = both_same (first.later, first.answer) (at_rest base s batch, Done) (sym first.step ∙ return_step size base s batch h) in
        let none : (end ≡ first.later) × (first.rest ≡ []) = play_none size first.later end first.rest first.legal in
        let nothing : handed answers ≡ [] = ap handed (first.all ∙ ap (λ (a : Answer). a ∷ first.rest) both.1 ∙ ap (λ (l : List Answer). Done ∷ l) none.1) in
        (none.0 ∙ both.0, sym (append-nil hs) ∙ ap (λ (l : List ℕ). hs ++ l) (sym nothing) ∙ all)
    go _ answers (IsToReturn.goes_on other es of_s apart not_return more) legal all =
        let first : First size (busy base s batch (Rest [] []) []) other es end answers = first_of size _ other es end answers legal in
        let same : other ≡ Return s = only_return size base s batch h other (first.later, first.answer) of_s apart first.step in
        absurd (let c : true ≡ false = sym (ap is_return same) ∙ not_return in cc)
