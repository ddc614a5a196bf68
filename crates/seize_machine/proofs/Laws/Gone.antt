-- The law of what is gone: the values reclaimed are those handed to their reclaimers, in order.
use Rattle.std.proofs.Common.{◌≡◌, ℕ, true, List, [], ◌∷◌, ◌++◌, append_assoc, append-nil, option_to_list, Option, Some, None, refl, sym, ◌∙◌, ap, subst}
use Rattle.std.proofs.lemmas.List.Concat.{flat_map-cons}
use Rattle.seize_machine.specs.Machine.State.{State, linked_values, are_distinct, opening}
use Rattle.seize_machine.specs.Machine.Event.{Event}
use Rattle.seize_machine.specs.Machine.Next.{Outcome, next}
use Rattle.seize_machine.specs.Machine.History.{Timed, end_of, answers_of, handed_value, handed}
use Rattle.seize_machine.specs.Machine.Laws.{Gone}
use Rattle.seize_machine.specs.declared.machine.event.Answer.{Answer}
use Rattle.seize_machine.proofs.Steps.Relation.{Step, step_of, some_is}
use Rattle.seize_machine.proofs.Lists.Histories.{run, from_first}

pub gone_is : (size : ℕ) (st : State) (event : Event) (d : State × Answer) → Step size st event d → (d.0).gone ≡ st.gone ++ option_to_list (handed_value d.1)
gone_is size st event _ (Step.handed s v puts given walk queue e new) = refl
gone_is size st event _ (Step.added s b won queue d e h) = subst (λ (d : State × Answer). (d.0).gone ≡ st.gone ++ option_to_list (handed_value d.1)) (some_is _ _ h) (sym (append-nil st.gone))
gone_is size st event _ (Step.subtracted s b walk queue d e h) = subst (λ (d : State × Answer). (d.0).gone ≡ st.gone ++ option_to_list (handed_value d.1)) (some_is _ _ h) (sym (append-nil st.gone))
gone_is size st event _ _ = sym (append-nil st.gone)

gone_of : (ts : List Timed) (st : State) → (end_of st (run st ts)).gone ≡ st.gone ++ handed (answers_of (run st ts))
gone_of [] st = sym (append-nil st.gone)
gone_of (t ∷ ts) st = go (next t.size st t.event) refl (λ st. gone_of ts st)
  where
    go : (o : Outcome) → next t.size st t.event ≡ o → ((st : State) → (end_of st (run st ts)).gone ≡ st.gone ++ handed (answers_of (run st ts)))
        → (end_of st (from_first o st t ts)).gone ≡ st.gone ++ handed (answers_of (from_first o st t ts))
    go None e ih = sym (append-nil st.gone)
    go (Some d) e ih =
        let more : List ℕ = handed (answers_of (run d.0 ts)) in
        ih d.0 ∙ ap (λ (gone : List ℕ). gone ++ more) (gone_is t.size st t.event d (step_of t.size st t.event d e))
        ∙ append_assoc st.gone (option_to_list (handed_value d.1)) more
        ∙ ap (λ (l : List ℕ). st.gone ++ l) (sym (flat_map-cons (λ answer. option_to_list (handed_value answer)) d.1 (answers_of (run d.0 ts))))

pub law_gone : (slots : ℕ) (links : List (Option ℕ)) (ts : List Timed) → are_distinct (linked_values links) ≡ true → Gone (opening slots links) (run (opening slots links) ts)
law_gone slots links ts distinct = gone_of ts (opening slots links)
