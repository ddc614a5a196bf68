-- **The step of the book**: whoever has a pass, and the keys of all that an event touches, appends the event, whatever the list is by
-- then. An event with no step of the code is an instance (`Notes`), and so is one inside an atomic step. Assumes `Logic`.
use Rattle.std.proofs.Common.{◌≡◌, ℕ, true, ◌==◌, List, [], ◌∷◌, ◌++◌, length, inl, inr, ⊎_elim, refl, sym, ◌∙◌, ap, subst, append-nil, arith}
use mathlib.Core.List.{IsPrefix}
use seplogic.Ra.Ura.{Ura}
use base.Logic.{SProp, ent, sep, ex, guard, upd, upd_i}
use base.Fml.{Fml, fsep, ftrue}
use types.Logic.{Logic, sem}
use types.Kit.{‵, raw, ◌⊛◌, some, given, ◌$◌, ◌∵◌, !, qed, move, drop, split, split3, join, fsplit, fjoin, fpick, fpack, pick, learn, show, check, suffices, settle, done, rewrite, use1, use2, use3}
use denote.Steps.{nothing}
use Rattle.seize_machine.specs.Machine.State.{State, has, linked_values, are_distinct}
use Rattle.seize_book.specs.Ledger.{HeldKey, reached, WithKinds, with_list, keys_made, Known}
use Rattle.seize_book.specs.Entry.{Entry, entry_coded, maker}
use Rattle.seize_book.specs.Book.{after, blocks, mine, passes, rules, kinds, slots}
use Rattle.seize_book.specs.Bounds.{OneWithin, had_size}
use Rattle.seize_book.specs.Fair.{Before, Fair, HasPlace, IsLabel, pass_key}
use Rattle.seize_book.specs.Laws.{ended_lives}
use Rattle.seize_book.specs.Pairs.{all_covered, pairs_by, pairs_in}
use Rattle.seize_book.specs.Tokens.{Name, rows, start, keys_own, rights_own, places_known, over, beside, inside, IsSole, gate_keeps, gate_gives, pass_adds, pass_at, pass_holds, AddsEntry}
use Rattle.seize_book.proofs.Append.{appends, Appended}
use Rattle.seize_book.proofs.Goes.{chained_push, goes, kept_now, births_of, births_below, births_free, slots_after}
use Rattle.seize_book.proofs.Gates.{agrees, follows}
use Rattle.seize_book.proofs.Lists.{after_push, equal, legal_push, selected_in}
use Rattle.seize_book.proofs.Pairs.{covered_push}
use Rattle.seize_book.proofs.Sound.{sound_push}
use Rattle.seize_book.proofs.Ways.{Among, KnownOf, MorePlaced, found_known, found_more, keys_apart, keys_whole, paths, ways, ways_born, ways_renewed, ways_tell}

module _ {M : Type 1} {𝓤 : Ura M} (𝓛 : Logic 𝓤) (n : Name) where
  abbrev Pr : Type 2
  Pr = SProp 𝓤

  abbrev ◌⊢◌ : Pr → Pr → Type 1
  P ⊢ Q = ent 𝓤 P Q

  abbrev ◌∗◌ : Pr → Pr → Pr
  P ∗ Q = sep 𝓤 P Q

  abbrev ⟦◌⟧ : Fml → Pr
  ⟦ P ⟧ = sem 𝓛 P

  infix 26 ◌⊢◌
  infixr 35 ◌∗◌
  abbrev J : Fml
  J = inside n

  abbrev st : State
  st = start n

  abbrev had : List Entry → Fml
  had log = reached entry_coded n.log log

  abbrev pub keys : List (HeldKey Entry) → Fml
  keys held = keys_own n held

  abbrev pub rights : List (HeldKey Entry) → Fml
  rights held = rights_own n held

  -- the event is fair with the pass and these keys
  abbrev pub MayMake : ℕ → ℕ → List Entry → List (HeldKey Entry) → (List Entry → Entry) → (List Entry → Type 0) → Type 0
  MayMake p size seen held ev Told =
      (own log : List Entry) → Before n p seen held log → Told log → Fair n (pass_key p own ∷ held) log (ev log) × (maker (ev log) ≡ p) × OneWithin size (ev log)

  -- what its maker brings tells more of the list, beside what has ended; and it is traded
  abbrev pub Tells : ℕ → List Entry → List (HeldKey Entry) → (List Entry → Type 0) → Pr → Type 1
  Tells p seen held Told X = (log : List Entry) → Before n p seen held log → ⟦ over (ended_lives log) ⟧ ∗ X ⊢ guard 𝓤 (Told log) (⟦ over (ended_lives log) ⟧ ∗ X)

  abbrev pub Trades : ℕ → List Entry → List (HeldKey Entry) → (List Entry → Entry) → (List Entry → Type 0) → Pr → (List Entry → Pr) → Type 1
  Trades p seen held ev Told X Y = (log : List Entry) → Before n p seen held log → Told log
      → ⟦ over (ended_lives log) ⟧ ∗ X ⊢ upd 𝓤 (⟦ over (ended_lives (log ++ ev log ∷ [])) ⟧ ∗ Y log)

  -- and what it brings shows a permit for each pair that the event makes
  abbrev pub Permits : ℕ → List Entry → List (HeldKey Entry) → (List Entry → Entry) → (List Entry → Type 0) → Pr → Type 1
  Permits p seen held ev Told X = (log : List Entry) → Before n p seen held log → Told log → X ⊢ ⟦ all_covered n.pairs (pairs_by (after st log) (ev log)) ⟧ ∗ X

  -- what is had afterwards, where the list was `log` before
  abbrev pub keys_after : List (HeldKey Entry) → (List Entry → Entry) → List Entry → Fml
  keys_after held ev log = keys (with_list held (log ++ ev log ∷ []) ++ keys_made (births_of st ev log) (log ++ ev log ∷ []))

  abbrev pub Made : ℕ → List Entry → List (HeldKey Entry) → (List Entry → Entry) → (List Entry → Type 0) → List Entry → Type 0
  Made p seen held ev Told log = (noted : AddsEntry n p seen (log ++ ev log ∷ []) (ev log)) × (noted.before ≡ log) × Before n p seen held log × Told log

  abbrev After : ℕ → List Entry → List (HeldKey Entry) → (List Entry → Entry) → (List Entry → Type 0) → (List Entry → Pr) → List Entry → Pr
  After p seen held ev Told Y log = guard 𝓤 (Made p seen held ev Told log) (⟦ J ⟧ ∗ ⟦ pass_holds n p (log ++ ev log ∷ []) ⟧ ∗ ⟦ keys_after held ev log ⟧ ∗ Y log)

  abbrev pub IsDistinct : Type 0
  IsDistinct = are_distinct (linked_values n.links) ≡ true

  made_now : IsDistinct → (p : ℕ) (seen : List Entry) (held : List (HeldKey Entry)) (ev : List Entry → Entry) (log own : List Entry) → Before n p seen held log → Fair n (pass_key p own ∷ held) log (ev log) × (maker (ev log) ≡ p)
      → AddsEntry n p seen (log ++ ev log ∷ []) (ev log)
  made_now distinct p seen held ev log own before f =
      let fair : Fair n (pass_key p own ∷ held) log (ev log) = f.0 in
      record {
        before = log;
        appended = refl;
        legal = legal_push st log (ev log) fair.done before.legal fair.legal;
        sound = sound_push st log (ev log) fair.done before.legal fair.legal fair.one before.sound;
        chained = chained_push n log (ev log) fair.done distinct before.legal before.sound before.chained fair.legal fair.leads;
        grows = before.grows;
        later = fair.done.0;
        answer = fair.done.1;
        does = fair.legal;
        leads = after_push st log (ev log) fair.done before.legal fair.legal;
        made = selected_in (λ a. maker a.0 == p) st log (ev log) fair.done fair.legal (equal (maker (ev log)) p f.1) ∙ ap (λ l. l ++ (ev log, fair.done.1) ∷ []) before.none_made;
        alone = before.alone;
        lent = λ v named. ⊎_elim (λ was. before.lent v was) (λ is. is.1) (fair.labels v named);
        distinct = distinct;
      }

  module _ (p size : ℕ) (seen : List Entry) (held : List (HeldKey Entry)) (ev : List Entry → Entry) (Told : List Entry → Type 0) (X : Pr) (Y : List Entry → Pr) where
    module _ (own : List Entry) (past : IsPrefix own seen × (mine st p own ≡ mine st p seen)) where
      abbrev all : List (HeldKey Entry)
      all = pass_key p own ∷ held

      abbrev Now : List Entry → Type 0
      Now log = (IsSole p → log ≡ seen) × KnownOf 𝓛 n (after st log).named

      abbrev ToldAll : List Entry → Type 0
      ToldAll log = Now log × Told log

      abbrev keeps : List Entry → Fml
      keeps log = gate_keeps n.gate log

      abbrev gives : List Entry → Fml
      gives log = gate_gives n.gate p log

      -- with a size that the book had
      abbrev brings : Fml
      brings = fsep (had_size n.gate.sizes size) (gives seen)

      abbrev now : List Entry → List Entry
      now log = log ++ ev log ∷ []

      before : (log : List Entry) → Known (rules st) all seen log → Now log → Before n p seen held log
      before log known now_ = record { legal = known.0.0; sound = known.0.1; chained = known.0.2; say = known.0.3; grows = known.1; none_made = sym known.2.0.1 ∙ past.1; kept = known.2.1; alone = now_.0; lent = now_.1.0; homes = now_.1.1 }

      -- where the numbers lead of the values that the keys are labelled with
      abbrev its_ways : Fml
      its_ways = ways 𝓛 n held

      abbrev Then : List Entry → Pr
      Then log = ⟦ gives (now log) ⟧ ∗ ⟦ its_ways ⟧ ∗ Y log

      tells_all : Tells p seen held Told X → (log : List Entry) → Known (rules st) all seen log → ⟦ beside n log ⟧ ∗ (⟦ brings ⟧ ∗ ⟦ its_ways ⟧ ∗ X) ⊢ guard 𝓤 (ToldAll log) (⟦ beside n log ⟧ ∗ (⟦ brings ⟧ ∗ ⟦ its_ways ⟧ ∗ X))
      tells_all tells log known = qed 𝓛 (‵ (beside n log) ∷ (‵ brings ⊛ ‵ its_ways ⊛ raw X) ∷ []) ∵ fsplit ! $ move ! (1 ∷ []) $ fsplit ! $ move ! (3 ∷ []) $ split3 ! $
          -- [the pass's copy, with its size; the ways; X; the book's copy; where all is found; what has ended]
          fsplit ! $ move ! (4 ∷ 1 ∷ []) $ use2 𝓛 (given (IsSole p → log ≡ seen) (‵ (keeps log) ⊛ ‵ (gives seen))) (agrees 𝓛 n.gate p log seen) $ learn ! (λ alone. split ! $ move ! (2 ∷ 1 ∷ []) $ fjoin ! $ move ! (1 ∷ 0 ∷ []) $
          -- [the book's copy; the pass's, with its size; the ways; X; where all is found; what has ended]
          move ! (4 ∷ []) $ use1 𝓛 (given (KnownOf 𝓛 n (after st log).named) (‵ (places_known n (after st log)))) (found_known 𝓛 n (after st log)) $ learn ! (λ lent.
          move ! (5 ∷ []) $ fsplit ! $
          -- [what has ended; the pairs; where all is found; the book's copy; the pass's; the ways; X]
          move ! (0 ∷ 6 ∷ []) $ use2 𝓛 (given (Told log) (‵ (over (ended_lives log)) ⊛ raw X)) (tells log (before log known (alone, lent))) $ learn ! (λ told. split ! $
          -- [what has ended; X; the pairs; where all is found; the book's copy; the pass's; the ways]
          move ! (0 ∷ 2 ∷ []) $ fjoin ! $ move ! (0 ∷ 1 ∷ []) $
          -- [what is past; X; where all is found; the book's copy; the pass's; the ways]
          check ! ((alone, lent), told) $ move ! (3 ∷ 2 ∷ []) $ fjoin ! $ move ! (1 ∷ 0 ∷ []) $ fjoin ! $ move ! (3 ∷ 1 ∷ []) $ join ! $ move ! (2 ∷ 0 ∷ []) $ join ! $ move ! (1 ∷ []) $ done !)))

      -- each value that is named by then was named, or is one of these; and the head of a slot that is made lies where its key says
      abbrev Names : (List Entry → Type 0) → Type 0
      Names So = (log : List Entry) → Before n p seen held log → So log
          → Among 𝓛 n (after st log).named held (after st (now log)).named × MorePlaced 𝓛 n (length (after st log).slots) held (length (after st (now log)).slots)

      -- and the event is within the size
      abbrev Sizes : (List Entry → Type 0) → Type 0
      Sizes So = (log : List Entry) → Before n p seen held log → So log → OneWithin size (ev log)

      trades_all : Sizes Told → Names Told → Permits p seen held ev Told X → Trades p seen held ev Told X Y → (log : List Entry) → Known (rules st) all seen log → ToldAll log → ⟦ beside n log ⟧ ∗ (⟦ brings ⟧ ∗ ⟦ its_ways ⟧ ∗ X) ⊢ upd 𝓤 (⟦ beside n (now log) ⟧ ∗ (⟦ gives (now log) ⟧ ∗ ⟦ its_ways ⟧ ∗ Y log))
      trades_all sizes names permits trades log known told = let Z : Pr = ⟦ beside n (now log) ⟧ ∗ (⟦ gives (now log) ⟧ ∗ ⟦ its_ways ⟧ ∗ Y log) in
          qed 𝓛 (‵ (beside n log) ∷ (‵ brings ⊛ ‵ its_ways ⊛ raw X) ∷ []) ∵ fsplit ! $ move ! (1 ∷ []) $ fsplit ! $ move ! (3 ∷ []) $ split3 ! $ fsplit ! $ move ! (1 ∷ 2 ∷ 3 ∷ 4 ∷ 5 ∷ 6 ∷ 0 ∷ []) $
          -- [the pass's copy; the ways; X; the book's copy; where all is found; what is past; its size, the last from here on]
          move ! (2 ∷ []) $ use1 𝓛 (‵ (all_covered n.pairs (pairs_by (after st log) (ev log))) ⊛ raw X) (permits log (before log known told.0) told.1) $ split ! $
          -- [the new pair; X; the pass's copy; the ways; the book's copy; where all is found; what is past]
          move ! (6 ∷ []) $ fsplit ! $ move ! (1 ∷ 2 ∷ []) $ use2 𝓛 (‵ (all_covered n.pairs (pairs_in st (now log)))) (covered_push 𝓛 n.pairs st log (ev log)) $
          -- [the pairs; what has ended; X; the pass's copy; the ways; the book's copy; where all is found]
          move ! (3 ∷ 4 ∷ 2 ∷ 5 ∷ 6 ∷ 1 ∷ 0 ∷ []) $
          -- [the pass's copy; the ways; X; the book's copy; where all is found; what has ended; the pairs]
          move ! (1 ∷ []) $ use1 𝓛 (‵ (paths 𝓛 n held) ⊛ ‵ its_ways) (ways_tell 𝓛 n held) $ split ! $
          move ! (5 ∷ 0 ∷ []) $ let new = names log (before log known told.0) told.1 in use2 𝓛 (‵ (places_known n (after st (now log)))) (found_more 𝓛 n (after st log) (after st (now log)) held new.0 new.1) $
          -- [where all is found then; the ways; the pass's copy; X; the book's copy; what has ended; the pairs]
          move ! (4 ∷ 2 ∷ 7 ∷ []) $ use3 𝓛 (raw (upd 𝓤 (⟦ keeps (now log) ⟧ ∗ ⟦ gives (now log) ⟧))) (follows 𝓛 n.gate p size log seen (ev log) (sizes log (before log known told.0) told.1) told.0.0) $ settle 𝓛 Z (‵ (keeps (now log)) ⊛ ‵ (gives (now log))) $ split ! $
          -- [the book's copy; the pass's; where all is found then; the ways; X; what has ended; the pairs]
          move ! (5 ∷ 4 ∷ []) $ use2 𝓛 (raw (upd 𝓤 (⟦ over (ended_lives (now log)) ⟧ ∗ Y log))) (trades log (before log known told.0) told.1) $ settle 𝓛 Z (‵ (over (ended_lives (now log))) ⊛ raw (Y log)) $ split ! $
          -- [what has ended then; Y; the book's copy; the pass's; where all is found then; the ways; the pairs]
          suffices ! _ (upd_i 𝓤 Z) $ move ! (0 ∷ 6 ∷ []) $ fjoin ! $ move ! (2 ∷ 4 ∷ []) $ fjoin ! $ move ! (1 ∷ 0 ∷ []) $ fjoin ! $ move ! (3 ∷ 1 ∷ []) $ join ! $ move ! (2 ∷ 0 ∷ []) $ join ! $ move ! (1 ∷ []) $ done !

    pub by_pass : IsDistinct → WithKinds kinds held → MayMake p size seen held ev Told → Permits p seen held ev Told X → Tells p seen held Told X → Trades p seen held ev Told X Y
        → ⟦ J ⟧ ∗ ⟦ pass_adds n p size seen ⟧ ∗ ⟦ keys held ⟧ ∗ X ⊢ upd 𝓤 (ex 𝓤 (After p seen held ev Told Y))
    unfolding made_now
    by_pass distinct within may permits tells trades = let Z : Pr = ex 𝓤 (After p seen held ev Told Y) in qed 𝓛 (‵ J ∷ ‵ (pass_adds n p size seen) ∷ ‵ (keys held) ∷ raw X ∷ []) ∵
        move ! (2 ∷ []) $ use1 𝓛 (‵ (rights held) ⊛ ‵ (ways 𝓛 n held)) (keys_apart 𝓛 n held) $ split ! $
        -- [the rights; the ways; J; the pass; X]
        move ! (3 ∷ []) $ fsplit ! $ move ! (1 ∷ []) $ fpick ! (λ own. fsplit ! $ move ! (1 ∷ []) $ fsplit ! $ move ! (1 ∷ []) $ fsplit ! $ move ! (1 ∷ []) $ fpick ! (λ past. drop ! $
        -- [its copy of the list; what it has seen; its key; its size; the rights; the ways; J; X]
        move ! (3 ∷ 0 ∷ []) $ fjoin ! $ move ! (2 ∷ 3 ∷ []) $ fjoin ! $ move ! (3 ∷ 5 ∷ []) $ join ! $ move ! (2 ∷ 0 ∷ []) $ join ! $ move ! (2 ∷ 0 ∷ []) $ join ! $ move ! (2 ∷ 1 ∷ 0 ∷ []) $
        -- [J; the rights; what it has seen, its copy, the ways and X]
        use3 𝓛 (raw (upd 𝓤 (ex 𝓤 (Appended entry_coded (rules st) (beside n) n.log (rows n) 𝓛 (all own past) seen ev (births_of st ev) (ToldAll own past) (Then own past)))))
        (appends entry_coded (rules st) (beside n) n.log (rows n) 𝓛 (all own past) seen ev (births_of st ev) (ToldAll own past) (⟦ brings own past ⟧ ∗ ⟦ its_ways own past ⟧ ∗ X) (Then own past)
        (omega arith, within) (λ log. births_below (after st log) (ev log)) (kept_now st)
        (goes n distinct (all own past) seen ev (ToldAll own past) (λ log known told. (may own log (before own past log known told.0) told.1).0)) (tells_all own past tells) (trades_all own past (λ log b told. (may own log b told).2) (names own past may) permits trades)) $
        settle 𝓛 Z (some (λ (log : List Entry). given (Known (rules st) (all own past) seen log × ToldAll own past log)
        (‵ J ⊛ ‵ (rights (with_list (all own past) (now own past log) ++ keys_made (births_of st ev log) (now own past log))) ⊛ ‵ (had (now own past log)) ⊛ (‵ (gives own past (now own past log)) ⊛ ‵ (its_ways own past) ⊛ raw (Y log))))) $
        suffices ! _ (upd_i 𝓤 Z) $ pick ! (λ log. learn ! (λ known. let log' : List Entry = now own past log in let b = before own past log known.0 known.1.0 in let bs : List (ℕ × ℕ) = births_of st ev log in
        split ! $ move ! (1 ∷ []) $ split3 ! $
        -- [the rights; what was reached; its copy, the ways and Y; J]
        move ! (2 ∷ []) $ split3 ! $ move ! (3 ∷ []) $ fsplit ! $
        -- [the pass's key; the rights; its copy; the ways; Y; what was reached; J]
        move ! (3 ∷ []) $ rewrite ! 0 (λ (F : Fml). ‵ F) (sym (ways_renewed 𝓛 n held log')) refl $
        use1 𝓛 (‵ (ways 𝓛 n (with_list held log' ++ keys_made bs log'))) (ways_born 𝓛 n (with_list held log') bs log' (births_free (after st log) (ev log))) $
        move ! (2 ∷ 0 ∷ []) $ use2 𝓛 (‵ (keys (with_list held log' ++ keys_made bs log'))) (keys_whole 𝓛 n (with_list held log' ++ keys_made bs log')) $
        -- [the keys; the pass's key; its copy; Y; what was reached; J]
        nothing ! $ fpack ! (IsPrefix log' log' × (mine st p log' ≡ mine st p log')) (λ _. ftrue) (([], append-nil log'), refl) $
        move ! (3 ∷ 0 ∷ []) $ fjoin ! $ move ! (4 ∷ 0 ∷ []) $ fjoin ! $ move ! (2 ∷ 0 ∷ []) $ fjoin ! $ fpack ! (List Entry) (pass_at n p log') log' $
        -- [the pass; the keys; Y; J]
        show ! (After p seen held ev Told Y) log $ check ! (let so = may own log b known.1.1 in made_now distinct p seen held ev log own b (so.0, so.1), refl, b, known.1.1) $ move ! (3 ∷ 0 ∷ 1 ∷ []) $ done !))))
      where
        past_pass : (own : List Entry) (v : ℕ) → IsLabel (pass_key p own ∷ held) v → IsLabel held v
        past_pass own v (inl is) = absurd (let e : passes ≡ blocks = is.0 in omega (arith, e))
        past_pass own v (inr is) = is

        past_place : (own : List Entry) (s : ℕ) → HasPlace (pass_key p own ∷ held) s → HasPlace held s
        past_place own s (inl is) = absurd (let e : passes ≡ slots = is.0 in omega (arith, e))
        past_place own s (inr is) = is

        names : (own : List Entry) (past : IsPrefix own seen × (mine st p own ≡ mine st p seen)) → MayMake p size seen held ev Told → Names own past Told
        names own past may log b told =
            let f = (may own log b told).0 in let e : after st (now own past log) ≡ f.done.0 = after_push st log (ev log) f.done b.legal f.legal in (
              λ v named. ⊎_elim (λ was. inl was) (λ is. inr (past_pass own v is.0, is.1)) (f.labels v (subst (λ (z : State). has v z.named ≡ true) e named)),
              ⊎_elim (λ same. inl same) (λ more. inr (more.1, past_place own (length (after st log).slots) (f.places more.0))) (slots_after st log (ev log) f.done b.legal f.legal),
            )
