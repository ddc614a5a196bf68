-- The holder of a pass, and of keys, looks at the list with no event. Assumes `Logic`.
use Rattle.std.proofs.Common.{◌≡◌, ℕ, List, [], ◌∷◌, length, map, refl, sym, ◌∙◌, append-nil, true, inl, arith}
use mathlib.Core.List.{IsPrefix}
use seplogic.Ra.Ura.{Ura}
use base.Growing.{prefix_trans}
use base.Logic.{SProp, ent, sep, ex, guard, upd, upd_i}
use base.Fml.{Fml, Share, ftrue, fsep, finv, fdead, flft}
use types.Logic.{Logic, sem}
use types.Growing.{at_least_dup}
use types.Kit.{‵, raw, later, updating, await, now, settle, keep, ◌⊛◌, some, given, ◌$◌, ◌∵◌, !, qed, by, move, drop, split, split3, join, fsplit, fjoin, fpick, fpack, pick, learn, show, check, frame, assume, rewrite, suffices, done, use1, use2, use3}
use denote.Steps.{nothing}
use Rattle.seize_machine.specs.Machine.State.{State, has, linked_values, are_distinct}
use Rattle.seize_book.specs.Ledger.{HeldKey, WithKinds, Known, logs, reached, with_list}
use Rattle.seize_book.specs.Entry.{Entry, entry_coded}
use denote.RawPtr.{Ptr}
use Rattle.seize_store.specs.RowTokens.{IsRowIn, known_row}
use Rattle.seize_book.proofs.Sound.{named_later}
use Rattle.seize_book.specs.Book.{after, IsLegalList, mine, rules, kinds}
use Rattle.seize_book.specs.Fair.{Before, pass_key}
use Rattle.seize_book.specs.Laws.{ended_lives, IsAmong}
use Rattle.seize_book.specs.Passes.{LooksOn}
use Rattle.seize_book.specs.Loans.{loan_of}
use Rattle.seize_book.specs.Permits.{all_permitted}
use Rattle.seize_book.specs.Tokens.{leads, Name, rows, start, beside, inside, knows, all_lead, all_lie, places_known, keys_own, rights_own, over, IsSole, gate_keeps, gate_gives, pass_at, pass_holds, pass_owns}
use Rattle.seize_book.specs.Pairs.{all_covered, pairs_in}
use Rattle.seize_book.proofs.Pairs.{all_covered_twice}
use Rattle.seize_book.proofs.Append.{Renewed, looks_beside, renews}
use Rattle.seize_book.proofs.Gates.{agrees, gives_as}
use Rattle.seize_book.proofs.Goes.{kept_now}
use Rattle.seize_book.proofs.Notes.{distinct_links, knows_twice, opens}
use Rattle.seize_book.proofs.Passes.{IsDistinct}
use Rattle.seize_book.proofs.Lives.{ended_grows, living, none_over, over_one}
use Rattle.seize_book.proofs.Tables.{all_lie_twice}
use Rattle.seize_book.proofs.Ways.{AreIn, KnownOf, found_known, all_in, all_permit, all_twice, one_leads, keys_apart, keys_whole, ways, ways_renewed}

-- the pass has seen more, and nothing was made with it
pub looked : {size : ℕ} (n : Name) (p : ℕ) (seen log : List Entry) → Before n p seen [] log → are_distinct (linked_values n.links) ≡ true → LooksOn (record { marker = record {}; name = n; id = p; size = size; seen = seen }) (record { marker = record {}; name = n; id = p; size = size; seen = log })
looked n p seen log before distinct = record {
  same = (refl, refl, refl);
  none_made = before.none_made;
  grows = before.grows;
  alone = before.alone;
  legal = before.legal;
  sound = before.sound;
  lent = before.lent;
  distinct = distinct;
}

-- so it is with what the pass had seen before, where nothing was made with it meanwhile
pub before_that : (n : Name) (p : ℕ) (x z : List Entry) (held : List (HeldKey Entry)) (log : List Entry) → IsPrefix x z → mine (start n) p z ≡ mine (start n) p x → (IsSole p → z ≡ x) → Before n p z held log → Before n p x [] log
before_that n p x z held log past same all b = record {
  legal = b.legal;
  sound = b.sound;
  chained = b.chained;
  say = b.say;
  grows = prefix_trans x z log past b.grows;
  none_made = b.none_made ∙ same;
  kept = tt;
  alone = λ s. b.alone s ∙ all s;
  lent = b.lent;
  homes = b.homes;
}

-- the permits that the book keeps: for what is lent with each value that was named, and for the pairs of all exchanges that were won
abbrev pub for_named : Name → List Entry → Fml
for_named n log = all_permitted n.permits (map loan_of (after (start n) log).named)

abbrev pub for_pairs : Name → List Entry → Fml
for_pairs n log = all_covered n.pairs (pairs_in (start n) log)

abbrev pub permits : Name → List Entry → Fml
permits n log = fsep (for_named n log) (for_pairs n log)

module _ {M : Type 1} {𝓤 : Ura M} (𝓛 : Logic 𝓤) (n : Name) (p : ℕ) where
  open 𝓛 use {H, A}

  abbrev Pr : Type 2
  Pr = SProp 𝓤

  abbrev ◌⊢◌ : Pr → Pr → Type 1
  P ⊢ Q = ent 𝓤 P Q

  abbrev ◌∗◌ : Pr → Pr → Pr
  P ∗ Q = sep 𝓤 P Q

  abbrev ⟦◌⟧ : Fml → Pr
  ⟦ P ⟧ = sem 𝓛 P

  infix 26 ◌⊢◌
  infixr 35 ◌∗◌
  abbrev J : Fml
  J = inside n

  abbrev st : State
  st = start n

  abbrev had : List Entry → Fml
  had log = reached entry_coded n.log log

  abbrev gives : List Entry → Fml
  gives log = gate_gives n.gate p log

  abbrev keys : List (HeldKey Entry) → Fml
  keys held = keys_own n held

  abbrev rights : List (HeldKey Entry) → Fml
  rights held = rights_own n held

  -- nothing was made with the pass since the list was `own`
  abbrev pub Idle : List Entry → List Entry → Type 0
  Idle own seen = IsPrefix own seen × (mine st p own ≡ mine st p seen)

  -- a pass, taken apart: its key, what it has seen, and its copy of the list
  abbrev pub Apart : List Entry → List Entry → Pr
  Apart seen own = guard 𝓤 (Idle own seen) (⟦ rights (pass_key p own ∷ []) ⟧ ∗ ⟦ had seen ⟧ ∗ ⟦ gives seen ⟧)

  pub apart : (seen : List Entry) → ⟦ pass_holds n p seen ⟧ ⊢ ex 𝓤 (Apart seen)
  apart seen = qed 𝓛 (‵ (pass_holds n p seen) ∷ []) ∵ fpick ! (λ own. fsplit ! $ move ! (1 ∷ []) $ fsplit ! $ move ! (1 ∷ []) $ fsplit ! $ move ! (1 ∷ []) $ fpick ! (λ past. drop ! $
      -- [its copy; what it has seen; its key]
      nothing ! $ move ! (3 ∷ 0 ∷ []) $ fjoin ! $ show ! (Apart seen) own $ check ! past $ move ! (0 ∷ 2 ∷ 1 ∷ []) $ done !))

  pub together : (seen own : List Entry) → Idle own seen → ⟦ rights (pass_key p own ∷ []) ⟧ ∗ ⟦ had seen ⟧ ∗ ⟦ gives seen ⟧ ⊢ ⟦ pass_holds n p seen ⟧
  together seen own past = qed 𝓛 (‵ (rights (pass_key p own ∷ [])) ∷ ‵ (had seen) ∷ ‵ (gives seen) ∷ []) ∵ fsplit ! $ nothing ! $ fpack ! (Idle own seen) (λ _. ftrue) past $
      -- [past; its key; nothing; what it has seen; its copy]
      move ! (4 ∷ 0 ∷ []) $ fjoin ! $ move ! (3 ∷ 0 ∷ []) $ fjoin ! $ move ! (1 ∷ 0 ∷ []) $ fjoin ! $ fpack ! (List Entry) (pass_at n p seen) own $ keep ! (0 ∷ []) $ done !

  -- where values lead stays known, beside what follows from it
  told_too : (vs : List ℕ) (F : Fml) → ⟦ all_lead n vs ⟧ ⊢ ⟦ F ⟧ → ⟦ all_lead n vs ⟧ ⊢ ⟦ all_lead n vs ⟧ ∗ ⟦ F ⟧
  told_too vs F tells = let L : Fml = all_lead n vs in qed 𝓛 (‵ L ∷ []) ∵ use1 𝓛 (‵ L ⊛ ‵ L) (all_twice 𝓛 n vs) $ split ! $ use1 𝓛 (‵ F) tells $ move ! (1 ∷ 0 ∷ []) $ done !

  -- these permits stand beside the list
  pub gives_permits : (log : List Entry) → ⟦ beside n log ⟧ ⊢ ⟦ beside n log ⟧ ∗ ⟦ permits n log ⟧
  gives_permits log = let vs : List ℕ = (after st log).named in let L : Fml = all_lead n vs in let N : Fml = for_named n log in let P : Fml = for_pairs n log in
      qed 𝓛 (‵ (beside n log) ∷ []) ∵ fsplit ! $ fsplit ! $ move ! (1 ∷ []) $ use1 𝓛 (‵ P ⊛ ‵ P) (all_covered_twice 𝓛 n.pairs (pairs_in st log)) $ split ! $
      -- [the pairs, twice; what has ended; the gate, and where all is found]
      move ! (2 ∷ 0 ∷ []) $ fjoin ! $ move ! (2 ∷ []) $ fsplit ! $ move ! (1 ∷ []) $ fsplit ! $ use1 𝓛 (‵ L ⊛ ‵ N) (told_too vs N (all_permit 𝓛 n vs)) $ split ! $
      -- [where all lead; the permits for what is lent; where all lie; the gate; what is past; the pairs]
      move ! (0 ∷ 2 ∷ []) $ fjoin ! $ move ! (2 ∷ 0 ∷ []) $ fjoin ! $ move ! (2 ∷ 0 ∷ []) $ fjoin ! $ move ! (1 ∷ 2 ∷ []) $ fjoin ! $ move ! (1 ∷ 0 ∷ []) $ done !

  module _ (seen : List Entry) (held : List (HeldKey Entry)) where
    abbrev alone : List Entry → Type 0
    alone log = IsSole p → log ≡ seen

    -- the gate tells a pass that is alone that it has seen all; and with each value that was named something is lent where it has to be
    abbrev Now : List Entry → Type 0
    Now log = alone log × KnownOf 𝓛 n (after st log).named

    tells : (own log : List Entry) → Known (rules st) (pass_key p own ∷ held) seen log → ⟦ beside n log ⟧ ∗ ⟦ gives seen ⟧ ⊢ guard 𝓤 (Now log) (⟦ beside n log ⟧ ∗ ⟦ gives seen ⟧)
    tells own log known = qed 𝓛 (‵ (beside n log) ∷ ‵ (gives seen) ∷ []) ∵ fsplit ! $ move ! (1 ∷ []) $ fsplit ! $ move ! (0 ∷ 3 ∷ []) $
        use2 𝓛 (given (alone log) (‵ (gate_keeps n.gate log) ⊛ ‵ (gives seen))) (agrees 𝓛 n.gate p log seen) $ learn ! (λ same. split ! $
        -- [the book's copy; the pass's; where all is found; what has ended]
        move ! (2 ∷ []) $ use1 𝓛 (given (KnownOf 𝓛 n (after st log).named) (‵ (places_known n (after st log)))) (found_known 𝓛 n (after st log)) $ learn ! (λ lent. check ! (same, lent) $
        move ! (1 ∷ 0 ∷ []) $ fjoin ! $ move ! (2 ∷ 0 ∷ []) $ fjoin ! $ done !))

    before : (own log : List Entry) → mine st p own ≡ mine st p seen → Known (rules st) (pass_key p own ∷ held) seen log → Now log → Before n p seen held log
    before own log past known now_ = record { legal = known.0.0; sound = known.0.1; chained = known.0.2; say = known.0.3; grows = known.1; none_made = sym known.2.0.1 ∙ past; kept = known.2.1; alone = now_.0; lent = now_.1.0; homes = now_.1.1 }

    -- where the invariant is open already; the rights stay as they are, and more is had of what stands beside the list
    module _ (Y : List Entry → Fml) (more : (log : List Entry) → ⟦ beside n log ⟧ ⊢ ⟦ beside n log ⟧ ∗ ⟦ Y log ⟧) where
      tells_with : (own log : List Entry) → Known (rules st) (pass_key p own ∷ held) seen log → ⟦ beside n log ⟧ ∗ ⟦ gives seen ⟧ ⊢ guard 𝓤 (Now log) (⟦ beside n log ⟧ ∗ (⟦ gives seen ⟧ ∗ ⟦ Y log ⟧))
      tells_with own log known = qed 𝓛 (‵ (beside n log) ∷ ‵ (gives seen) ∷ []) ∵ use2 𝓛 (given (Now log) (‵ (beside n log) ⊛ ‵ (gives seen))) (tells own log known) $ learn ! (λ so. split ! $
          use1 𝓛 (‵ (beside n log) ⊛ ‵ (Y log)) (more log) $ split ! $ check ! so $ move ! (0 ∷ 2 ∷ 1 ∷ []) $ done !)

      abbrev pub PeekedWith : List Entry → Pr
      PeekedWith log = guard 𝓤 (Before n p seen held log) (⟦ J ⟧ ∗ ⟦ pass_holds n p log ⟧ ∗ ⟦ rights held ⟧ ∗ ⟦ Y log ⟧)

      pub peeks_with : WithKinds kinds held → ⟦ J ⟧ ∗ ⟦ pass_holds n p seen ⟧ ∗ ⟦ rights held ⟧ ⊢ ex 𝓤 PeekedWith
      peeks_with within = qed 𝓛 (‵ J ∷ ‵ (pass_holds n p seen) ∷ ‵ (rights held) ∷ []) ∵ move ! (1 ∷ []) $
          use1 𝓛 (some (λ (own : List Entry). given (Idle own seen) (‵ (rights (pass_key p own ∷ [])) ⊛ ‵ (had seen) ⊛ ‵ (gives seen)))) (apart seen) $ pick ! (λ own. learn ! (λ past. split3 ! $ fsplit ! $ move ! (1 ∷ []) $ drop ! $
          -- [its key; what it has seen; its copy; J; the rights]
          move ! (0 ∷ 4 ∷ []) $ fjoin ! $ move ! (1 ∷ 2 ∷ []) $ join ! $ move ! (2 ∷ 1 ∷ 0 ∷ []) $
          use3 𝓛 (some (λ (log : List Entry). given (Known (rules st) (pass_key p own ∷ held) seen log × Now log) (‵ J ⊛ ‵ (rights (pass_key p own ∷ held)) ⊛ ‵ (had log) ⊛ (‵ (gives seen) ⊛ ‵ (Y log)))))
          (looks_beside entry_coded (rules st) (beside n) n.log (rows n) 𝓛 (pass_key p own ∷ held) seen Now ⟦ gives seen ⟧ (λ log. ⟦ gives seen ⟧ ∗ ⟦ Y log ⟧) (omega arith, within) (tells_with own)) $
          pick ! (λ log. learn ! (λ known. let b = before own log past.1 known.0 known.1 in split ! $ move ! (1 ∷ []) $ split3 ! $
          -- [the rights; what was reached; its copy, and more; J]
          move ! (2 ∷ []) $ split ! $ use1 𝓛 (‵ (gives log)) (gives_as 𝓛 n.gate p seen log (λ s. sym (known.1.0 s))) $ move ! (2 ∷ []) $ fsplit ! $
          -- [its key; the rights; its copy; more; what was reached; J]
          nothing ! $ move ! (1 ∷ 0 ∷ []) $ fjoin ! $ move ! (0 ∷ 4 ∷ 2 ∷ []) $ use3 𝓛 (‵ (pass_holds n p log)) (together log own (known.0.2.0.0, known.0.2.0.1)) $
          -- [the pass; the rights; more; J]
          show ! PeekedWith log $ check ! b $ move ! (3 ∷ 0 ∷ 1 ∷ 2 ∷ []) $ done !))))

    -- where the keys are whole, and no more is had
    abbrev pub Peeked : List Entry → Pr
    Peeked log = guard 𝓤 (Before n p seen held log) (⟦ J ⟧ ∗ ⟦ pass_holds n p log ⟧ ∗ ⟦ keys held ⟧)

    pub peeks : WithKinds kinds held → ⟦ J ⟧ ∗ ⟦ pass_holds n p seen ⟧ ∗ ⟦ keys held ⟧ ⊢ ex 𝓤 Peeked
    peeks within = qed 𝓛 (‵ J ∷ ‵ (pass_holds n p seen) ∷ ‵ (keys held) ∷ []) ∵ move ! (2 ∷ []) $ use1 𝓛 (‵ (rights held) ⊛ ‵ (ways 𝓛 n held)) (keys_apart 𝓛 n held) $ split ! $
        -- [the rights; the ways; J; the pass]
        move ! (2 ∷ 3 ∷ 0 ∷ []) $ use3 𝓛 (some (λ (log : List Entry). given (Before n p seen held log) (‵ J ⊛ ‵ (pass_holds n p log) ⊛ ‵ (rights held) ⊛ ‵ ftrue)))
        (peeks_with (λ _. ftrue) (λ log. qed 𝓛 (‵ (beside n log) ∷ []) ∵ nothing ! $ move ! (1 ∷ 0 ∷ []) $ done !) within) $ pick ! (λ log. learn ! (λ b. split ! $ move ! (1 ∷ []) $ split3 ! $
        -- [the pass; the rights; nothing; J; the ways]
        move ! (1 ∷ 4 ∷ []) $ use2 𝓛 (‵ (keys held)) (keys_whole 𝓛 n held) $ show ! Peeked log $ check ! b $ keep ! (3 ∷ 1 ∷ 0 ∷ []) $ done !))

    -- The invariant is opened: what is brought tells more of what is found by the list, and more is had afterwards.
    module _ (Told : List Entry → Type 0) (X : Pr) (Y : List Entry → Pr) where
      abbrev all : List Entry → Fml
      all log = places_known n (after st log)

      abbrev pub Asks : Type 1
      Asks = (log : List Entry) → IsPrefix seen log → IsLegalList st log → ⟦ all log ⟧ ∗ X ⊢ guard 𝓤 (Told log) (⟦ all log ⟧ ∗ Y log)

      tells_more : Asks → (own log : List Entry) → Known (rules st) (pass_key p own ∷ held) seen log → ⟦ beside n log ⟧ ∗ (⟦ gives seen ⟧ ∗ X) ⊢ guard 𝓤 (Now log × Told log) (⟦ beside n log ⟧ ∗ (⟦ gives seen ⟧ ∗ Y log))
      tells_more asks own log known = qed 𝓛 (‵ (beside n log) ∷ (‵ (gives seen) ⊛ raw X) ∷ []) ∵ fsplit ! $ move ! (1 ∷ []) $ fsplit ! $ move ! (3 ∷ []) $ split ! $
          -- [the pass's copy; X; the book's copy; where all is found; what is past]
          move ! (3 ∷ 1 ∷ []) $ use2 𝓛 (given (Told log) (‵ (all log) ⊛ raw (Y log))) (asks log known.1 known.0.0) $ learn ! (λ told. split ! $
          -- [where all is found; Y; the pass's copy; the book's; what is past]
          use1 𝓛 (given (KnownOf 𝓛 n (after st log).named) (‵ (all log))) (found_known 𝓛 n (after st log)) $ learn ! (λ lent.
          move ! (3 ∷ 2 ∷ []) $ use2 𝓛 (given (alone log) (‵ (gate_keeps n.gate log) ⊛ ‵ (gives seen))) (agrees 𝓛 n.gate p log seen) $ learn ! (λ same. check ! ((same, lent), told) $ split ! $
          -- [the book's copy; the pass's; where all is found; Y; what is past]
          move ! (0 ∷ 2 ∷ []) $ fjoin ! $ move ! (3 ∷ 0 ∷ []) $ fjoin ! $ move ! (1 ∷ 2 ∷ []) $ join ! $ move ! (1 ∷ 0 ∷ []) $ done !)))

      -- where more is told of the values that were named alone
      abbrev pub AsksValues : Type 1
      AsksValues = (log : List Entry) → IsPrefix seen log → IsLegalList st log → ⟦ all_lead n (after st log).named ⟧ ∗ X ⊢ guard 𝓤 (Told log) (⟦ all_lead n (after st log).named ⟧ ∗ Y log)

      pub of_values : AsksValues → Asks
      of_values asks log grows legal = qed 𝓛 (‵ (all log) ∷ raw X ∷ []) ∵ fsplit ! $ move ! (0 ∷ 2 ∷ []) $
          use2 𝓛 (given (Told log) (‵ (all_lead n (after st log).named) ⊛ raw (Y log))) (asks log grows legal) $ learn ! (λ told. check ! told $ split ! $
          -- [where all lead; Y; where all lie]
          move ! (0 ∷ 2 ∷ []) $ fjoin ! $ done !)

      abbrev pub Found : List Entry → Pr
      Found log = guard 𝓤 (Before n p seen held log × Told log) (⟦ pass_owns n p log ⟧ ∗ ⟦ keys (with_list held log) ⟧ ∗ Y log)

      -- the pass has seen all then, and the keys know of it
      pub looks_with : Asks → WithKinds kinds held → ⟦ pass_owns n p seen ⟧ ∗ ⟦ keys held ⟧ ∗ X ⊢ H.⇛ (ex 𝓤 Found)
      looks_with asks within = let Z : Pr = ex 𝓤 Found in qed 𝓛 ((‵ (knows n) ⊛ ‵ (pass_holds n p seen)) ∷ ‵ (keys held) ∷ raw X ∷ []) ∵ split ! $ move ! (2 ∷ []) $ use1 𝓛 (‵ (rights held) ⊛ ‵ (ways 𝓛 n held)) (keys_apart 𝓛 n held) $ split ! $
          move ! (2 ∷ []) $ use1 𝓛 (‵ (knows n) ⊛ ‵ (knows n)) (knows_twice 𝓛 n) $ split ! $ use1 𝓛 (‵ (finv J)) (opens 𝓛 n) $
          suffices ! _ (𝓛.invs.inv_acc J Z) $ frame ! $ assume ! (‵ J) $ move ! (4 ∷ []) $
          -- [the pass; J; the book; the rights; the ways; X]
          use1 𝓛 (some (λ (own : List Entry). given (Idle own seen) (‵ (rights (pass_key p own ∷ [])) ⊛ ‵ (had seen) ⊛ ‵ (gives seen)))) (apart seen) $ pick ! (λ own. learn ! (λ past. split3 ! $ fsplit ! $ move ! (1 ∷ []) $ drop ! $
          -- [its key; what it has seen; its copy; J; the book; the rights; the ways; X]
          move ! (0 ∷ 5 ∷ []) $ fjoin ! $ move ! (2 ∷ 6 ∷ []) $ join ! $ move ! (2 ∷ 0 ∷ []) $ join ! $ move ! (2 ∷ 1 ∷ 0 ∷ []) $
          use3 𝓛 (raw (upd 𝓤 (ex 𝓤 (Renewed entry_coded (rules st) (beside n) n.log (rows n) 𝓛 (pass_key p own ∷ held) seen (λ log. Now log × Told log) (λ log. ⟦ gives seen ⟧ ∗ Y log)))))
          (renews entry_coded (rules st) (beside n) n.log (rows n) 𝓛 (pass_key p own ∷ held) seen (λ log. Now log × Told log) (⟦ gives seen ⟧ ∗ X) (λ log. ⟦ gives seen ⟧ ∗ Y log) (omega arith, within) (kept_now st) (tells_more asks own)) $
          settle 𝓛 (⟦ J ⟧ ∗ Z) (some (λ (log : List Entry). given (Known (rules st) (pass_key p own ∷ held) seen log × (Now log × Told log)) (‵ J ⊛ ‵ (rights (with_list (pass_key p own ∷ held) log)) ⊛ ‵ (had log) ⊛ (‵ (gives seen) ⊛ raw (Y log))))) $
          suffices ! _ (upd_i 𝓤 (⟦ J ⟧ ∗ Z)) $ pick ! (λ log. learn ! (λ known. let b = before own log past.1 known.0 known.1.0 in split ! $ frame ! $ split3 ! $
          -- [the rights; what was reached; its copy and Y; the book; the ways]
          move ! (2 ∷ []) $ split ! $ use1 𝓛 (‵ (gives log)) (gives_as 𝓛 n.gate p seen log (λ s. sym (known.1.0.0 s))) $ move ! (2 ∷ []) $ fsplit ! $
          -- [its key; the rights; its copy; Y; what was reached; the book; the ways]
          move ! (6 ∷ []) $ rewrite ! 0 (λ (F : Fml). ‵ F) (sym (ways_renewed 𝓛 n held log)) refl $ move ! (2 ∷ 0 ∷ []) $ use2 𝓛 (‵ (keys (with_list held log))) (keys_whole 𝓛 n (with_list held log)) $
          -- [the keys; its key; its copy; Y; what was reached; the book]
          nothing ! $ move ! (2 ∷ 0 ∷ []) $ fjoin ! $ move ! (0 ∷ 4 ∷ 2 ∷ []) $ use3 𝓛 (‵ (pass_holds n p log)) (together log log (([], append-nil log), refl)) $
          -- [the pass; the keys; Y; the book]
          move ! (3 ∷ 0 ∷ []) $ fjoin ! $ show ! Found log $ check ! (b, known.1.1) $ done !))))

    abbrev pub Looked : List Entry → Pr
    Looked log = guard 𝓤 (Before n p seen held log × IsDistinct 𝓛 n) (⟦ pass_owns n p log ⟧ ∗ ⟦ keys (with_list held log) ⟧)

    -- where nothing is brought
    pub looks_now : WithKinds kinds held → ⟦ pass_owns n p seen ⟧ ∗ ⟦ keys held ⟧ ⊢ H.⇛ (ex 𝓤 Looked)
    looks_now within = qed 𝓛 ((‵ (knows n) ⊛ ‵ (pass_holds n p seen)) ∷ ‵ (keys held) ∷ []) ∵ updating ! $ split ! $
        use1 𝓛 (given (IsDistinct 𝓛 n) (‵ (knows n))) (distinct_links 𝓛 n) $ learn ! (λ distinct. fjoin ! $ nothing ! $ move ! (1 ∷ 2 ∷ 0 ∷ []) $
        use3 𝓛 (later (some (λ (log : List Entry). given (Before n p seen held log × Unit {0}) (‵ (pass_owns n p log) ⊛ ‵ (keys (with_list held log)) ⊛ ‵ ftrue))))
        (looks_with (λ _. Unit {0}) ⟦ ftrue ⟧ (λ _. ⟦ ftrue ⟧) (λ log grows legal. qed 𝓛 (‵ (places_known n (after st log)) ∷ ‵ ftrue ∷ []) ∵ check ! tt $ done !) within) $
        await ! tt $ pick ! (λ log. learn ! (λ so. split3 ! $ now ! $ show ! Looked log $ check ! (so.0, distinct) $ keep ! (0 ∷ 1 ∷ []) $ done !)))

  -- each value that was named lies in the block that a row shows at its number, if its number is one of the row's
  abbrev pub SeesHomes : ℕ → List (Ptr × ℕ) → List Entry → Type 0
  SeesHomes row chunks log = AreIn n row chunks (after st log).named

  abbrev pub FoundHomes : List Entry → ℕ → List (Ptr × ℕ) → List Entry → Pr
  FoundHomes seen row chunks log = guard 𝓤 (Before n p seen [] log × SeesHomes row chunks log × IsDistinct 𝓛 n) ⟦ pass_owns n p log ⟧

  pub finds : (seen : List Entry) (store : List ℕ) (row : ℕ) (chunks : List (Ptr × ℕ)) → IsRowIn store row chunks → n.store ≡ store
      → ⟦ pass_owns n p seen ⟧ ∗ ⟦ known_row store row chunks ⟧ ⊢ H.⇛ (ex 𝓤 (FoundHomes seen row chunks))
  finds seen store row chunks made is = qed 𝓛 ((‵ (knows n) ⊛ ‵ (pass_holds n p seen)) ∷ ‵ (known_row store row chunks) ∷ []) ∵ updating ! $ split ! $
      use1 𝓛 (given (IsDistinct 𝓛 n) (‵ (knows n))) (distinct_links 𝓛 n) $ learn ! (λ distinct. fjoin ! $ nothing ! $ move ! (1 ∷ 0 ∷ 2 ∷ []) $
      use3 𝓛 (later (some (λ (log : List Entry). given (Before n p seen [] log × SeesHomes row chunks log) (‵ (pass_owns n p log) ⊛ ‵ ftrue ⊛ ‵ ftrue))))
      (looks_with seen [] (SeesHomes row chunks) ⟦ known_row store row chunks ⟧ (λ _. ⟦ ftrue ⟧) (of_values seen [] (SeesHomes row chunks) ⟦ known_row store row chunks ⟧ (λ _. ⟦ ftrue ⟧)
      (λ log grows legal. qed 𝓛 (‵ (all_lead n (after st log).named) ∷ ‵ (known_row store row chunks) ∷ []) ∵ use2 𝓛 (given (SeesHomes row chunks log) (‵ (all_lead n (after st log).named))) (all_in 𝓛 n store row chunks made is (after st log).named) $
      learn ! (λ so. check ! so $ nothing ! $ move ! (1 ∷ 0 ∷ []) $ done !))) tt) $
      await ! tt $ pick ! (λ log. learn ! (λ so. split3 ! $ now ! $ show ! (FoundHomes seen row chunks) log $ check ! (so.0, so.1, distinct) $ keep ! (0 ∷ []) $ done !)))

  -- what the book says of all that was named or made is looked up, and more of it is had afterwards
  abbrev Had : List Entry → (List Entry → Fml) → List Entry → Pr
  Had seen Y log = guard 𝓤 (Before n p seen [] log × IsDistinct 𝓛 n) (⟦ pass_owns n p log ⟧ ∗ ⟦ Y log ⟧)

  looks_up : (seen : List Entry) (Y : List Entry → Fml)
      → ((log : List Entry) → IsPrefix seen log → IsLegalList st log → ⟦ places_known n (after st log) ⟧ ∗ ⟦ ftrue ⟧ ⊢ guard 𝓤 (Unit {0}) (⟦ places_known n (after st log) ⟧ ∗ ⟦ Y log ⟧))
      → ⟦ pass_owns n p seen ⟧ ⊢ H.⇛ (ex 𝓤 (Had seen Y))
  looks_up seen Y there = qed 𝓛 ((‵ (knows n) ⊛ ‵ (pass_holds n p seen)) ∷ []) ∵ updating ! $ split ! $
      use1 𝓛 (given (IsDistinct 𝓛 n) (‵ (knows n))) (distinct_links 𝓛 n) $ learn ! (λ distinct. fjoin ! $ nothing ! $ nothing ! $ move ! (2 ∷ 0 ∷ 1 ∷ []) $
      use3 𝓛 (later (some (λ (log : List Entry). given (Before n p seen [] log × Unit {0}) (‵ (pass_owns n p log) ⊛ ‵ ftrue ⊛ ‵ (Y log))))) (looks_with seen [] (λ _. Unit {0}) ⟦ ftrue ⟧ (λ log. ⟦ Y log ⟧) there tt) $
      await ! tt $ pick ! (λ log. learn ! (λ so. split3 ! $ now ! $ show ! (Had seen Y) log $ check ! (so.0, distinct) $ keep ! (0 ∷ 2 ∷ []) $ done !)))

  looks_up_values : (seen : List Entry) (Y : List Entry → Fml) → ((log : List Entry) → IsPrefix seen log → IsLegalList st log → ⟦ all_lead n (after st log).named ⟧ ⊢ ⟦ Y log ⟧)
      → ⟦ pass_owns n p seen ⟧ ⊢ H.⇛ (ex 𝓤 (Had seen Y))
  looks_up_values seen Y tells = looks_up seen Y (of_values seen [] (λ _. Unit {0}) ⟦ ftrue ⟧ (λ log. ⟦ Y log ⟧) (λ log grows legal. let vs : List ℕ = (after st log).named in
      qed 𝓛 (‵ (all_lead n vs) ∷ ‵ ftrue ∷ []) ∵ keep ! (0 ∷ []) $ check ! tt $ by ! (told_too vs (Y log) (tells log grows legal))))

  -- where the number of a value leads that was named
  pub finds_row : (seen : List Entry) (v : ℕ) → has v (after st seen).named ≡ true → ⟦ pass_owns n p seen ⟧ ⊢ H.⇛ (ex 𝓤 (Had seen (λ _. leads n v)))
  finds_row seen v named = looks_up_values seen (λ _. leads n v) (λ log grows legal. one_leads 𝓛 n (after st log).named v (named_later st seen log v grows legal named))

  -- that what is lent with each value that was named may be lent
  pub finds_permits : (seen : List Entry) → ⟦ pass_owns n p seen ⟧ ⊢ H.⇛ (ex 𝓤 (Had seen (for_named n)))
  finds_permits seen = looks_up_values seen (for_named n) (λ log grows legal. all_permit 𝓛 n (after st log).named)

  -- where the heads lie of all slots that there are
  pub finds_slots : (seen : List Entry) → ⟦ pass_owns n p seen ⟧ ⊢ H.⇛ (ex 𝓤 (Had seen (λ log. all_lie n (length (after st log).slots))))
  finds_slots seen = looks_up seen (λ log. all_lie n (length (after st log).slots)) lie_there
    where
      lie_there : (log : List Entry) → IsPrefix seen log → IsLegalList st log
          → ⟦ places_known n (after st log) ⟧ ∗ ⟦ ftrue ⟧ ⊢ guard 𝓤 (Unit {0}) (⟦ places_known n (after st log) ⟧ ∗ ⟦ all_lie n (length (after st log).slots) ⟧)
      lie_there log grows legal = let m : ℕ = length (after st log).slots in qed 𝓛 (‵ (places_known n (after st log)) ∷ ‵ ftrue ∷ []) ∵ keep ! (0 ∷ []) $ fsplit ! $ move ! (1 ∷ []) $ fsplit ! $
          use1 𝓛 (‵ (all_lie n m) ⊛ ‵ (all_lie n m)) (all_lie_twice 𝓛 n m) $ split ! $
          -- [where all lie, twice; that all are lent; where all lead]
          check ! tt $ move ! (1 ∷ 2 ∷ []) $ fjoin ! $ move ! (2 ∷ 0 ∷ []) $ fjoin ! $ done !

  -- a lifetime that the pass has seen ended is over
  pub is_over : (seen : List Entry) (a : ℕ) → IsAmong (ended_lives seen) a → ⟦ pass_owns n p seen ⟧ ⊢ H.⇛ (⟦ pass_owns n p seen ⟧ ∗ ⟦ fdead (a ∷ []) ⟧)
  is_over seen a there = let Z : Pr = ⟦ pass_owns n p seen ⟧ ∗ ⟦ fdead (a ∷ []) ⟧ in qed 𝓛 ((‵ (knows n) ⊛ ‵ (pass_holds n p seen)) ∷ []) ∵ split ! $ use1 𝓛 (‵ (knows n) ⊛ ‵ (knows n)) (knows_twice 𝓛 n) $ split ! $ use1 𝓛 (‵ (finv J)) (opens 𝓛 n) $
      suffices ! _ (𝓛.invs.inv_acc J Z) $ frame ! $ assume ! (‵ J) $ move ! (2 ∷ []) $
      -- [the pass; J; the book]
      use1 𝓛 (some (λ (own : List Entry). given (Idle own seen) (‵ (rights (pass_key p own ∷ [])) ⊛ ‵ (had seen) ⊛ ‵ (gives seen)))) (apart seen) $ pick ! (λ own. learn ! (λ past. split3 ! $ move ! (1 ∷ []) $
      use1 𝓛 (‵ (had seen) ⊛ ‵ (had seen)) (at_least_dup (logs entry_coded) 𝓛 n.log seen) $ split ! $
      -- [what it has seen, twice; its key; its copy; J; the book]
      move ! (2 ∷ 0 ∷ 3 ∷ []) $ use3 𝓛 (‵ (pass_holds n p seen)) (together seen own past) $ move ! (3 ∷ 0 ∷ []) $ fjoin ! $
      -- [the pass; what it has seen; J]
      nothing ! $ move ! (2 ∷ 0 ∷ []) $ join ! $ nothing ! $ move ! (3 ∷ 0 ∷ 1 ∷ []) $
      use3 𝓛 (some (λ (log : List Entry). given (Known (rules st) [] seen log × Unit {0}) (‵ J ⊛ ‵ ftrue ⊛ ‵ (had log) ⊛ ‵ (fdead (a ∷ [])))))
      (looks_beside entry_coded (rules st) (beside n) n.log (rows n) 𝓛 [] seen (λ _. Unit {0}) ⟦ ftrue ⟧ (λ _. ⟦ fdead (a ∷ []) ⟧) tt dead) $
      suffices ! _ (upd_i 𝓤 (⟦ J ⟧ ∗ Z)) $ pick ! (λ log. learn ! (λ known. split ! $ frame ! $ split3 ! $ keep ! (3 ∷ 2 ∷ []) $ done !))))
    where
      dead : (log : List Entry) → Known (rules st) [] seen log → ⟦ beside n log ⟧ ∗ ⟦ ftrue ⟧ ⊢ guard 𝓤 (Unit {0}) (⟦ beside n log ⟧ ∗ ⟦ fdead (a ∷ []) ⟧)
      dead log known = qed 𝓛 (‵ (beside n log) ∷ ‵ ftrue ∷ []) ∵ fsplit ! $ fsplit ! $ use1 𝓛 (‵ (over (ended_lives log)) ⊛ ‵ (fdead (a ∷ []))) (over_one 𝓛 (ended_lives log) a (ended_grows seen log a known.1 there)) $ split ! $
          -- [what has ended; that this has; the pairs; the rest; nothing]
          move ! (0 ∷ 2 ∷ []) $ fjoin ! $ check ! tt $ move ! (0 ∷ 2 ∷ []) $ fjoin ! $ keep ! (0 ∷ 1 ∷ []) $ done !

  -- and one whose token is at hand has not ended in what the pass has seen
  abbrev pub Lasts : List Entry → ℕ → Share → Pr
  Lasts seen a q = guard 𝓤 (¬ (IsAmong (ended_lives seen) a)) (⟦ pass_owns n p seen ⟧ ∗ ⟦ flft (a ∷ []) q ⟧)

  pub lasts : (seen : List Entry) (a : ℕ) (q : Share) → ⟦ pass_owns n p seen ⟧ ∗ ⟦ flft (a ∷ []) q ⟧ ⊢ H.⇛ (Lasts seen a q)
  lasts seen a q = let Z : Pr = Lasts seen a q in let T : Fml = flft (a ∷ []) q in qed 𝓛 ((‵ (knows n) ⊛ ‵ (pass_holds n p seen)) ∷ ‵ T ∷ []) ∵ split ! $ use1 𝓛 (‵ (knows n) ⊛ ‵ (knows n)) (knows_twice 𝓛 n) $ split ! $ use1 𝓛 (‵ (finv J)) (opens 𝓛 n) $
      suffices ! _ (𝓛.invs.inv_acc J Z) $ frame ! $ assume ! (‵ J) $ move ! (2 ∷ []) $
      -- [the pass; J; the book; the token]
      use1 𝓛 (some (λ (own : List Entry). given (Idle own seen) (‵ (rights (pass_key p own ∷ [])) ⊛ ‵ (had seen) ⊛ ‵ (gives seen)))) (apart seen) $ pick ! (λ own. learn ! (λ past. split3 ! $ move ! (1 ∷ []) $
      use1 𝓛 (‵ (had seen) ⊛ ‵ (had seen)) (at_least_dup (logs entry_coded) 𝓛 n.log seen) $ split ! $
      -- [what it has seen, twice; its key; its copy; J; the book; the token]
      move ! (2 ∷ 0 ∷ 3 ∷ []) $ use3 𝓛 (‵ (pass_holds n p seen)) (together seen own past) $ move ! (3 ∷ 0 ∷ []) $ fjoin ! $
      -- [the pass; what it has seen; J; the token]
      move ! (1 ∷ 3 ∷ []) $ join ! $ nothing ! $ move ! (3 ∷ 0 ∷ 1 ∷ []) $
      use3 𝓛 (some (λ (log : List Entry). given (Known (rules st) [] seen log × (¬ (IsAmong (ended_lives seen) a))) (‵ J ⊛ ‵ ftrue ⊛ ‵ (had log) ⊛ ‵ T)))
      (looks_beside entry_coded (rules st) (beside n) n.log (rows n) 𝓛 [] seen (λ _. ¬ (IsAmong (ended_lives seen) a)) ⟦ T ⟧ (λ _. ⟦ T ⟧) tt alive) $
      suffices ! _ (upd_i 𝓤 (⟦ J ⟧ ∗ Z)) $ pick ! (λ log. learn ! (λ known. split ! $ frame ! $ split3 ! $ check ! known.1 $ keep ! (3 ∷ 2 ∷ []) $ done !))))
    where
      alive : (log : List Entry) → Known (rules st) [] seen log → ⟦ beside n log ⟧ ∗ ⟦ flft (a ∷ []) q ⟧ ⊢ guard 𝓤 (¬ (IsAmong (ended_lives seen) a)) (⟦ beside n log ⟧ ∗ ⟦ flft (a ∷ []) q ⟧)
      alive log known = qed 𝓛 (‵ (beside n log) ∷ ‵ (flft (a ∷ []) q) ∷ []) ∵ fsplit ! $ nothing ! $ move ! (3 ∷ 0 ∷ []) $ fjoin ! $ move ! (1 ∷ 0 ∷ []) $ fsplit ! $ move ! (0 ∷ 2 ∷ []) $
          -- [what has ended; the token; the pairs; the rest]
          use2 𝓛 (given ((b : ℕ) → IsAmong (a ∷ []) b → ¬ (IsAmong (ended_lives log) b)) (‵ (over (ended_lives log)) ⊛ ‵ (living 𝓛 (a ∷ []) q))) (none_over 𝓛 (a ∷ []) (ended_lives log) q) $ learn ! (λ none.
          check ! (λ there. none a (inl refl) (ended_grows seen log a known.1 there)) $ split ! $ move ! (1 ∷ []) $ fsplit ! $
          -- [the token; nothing; what has ended; the pairs; the rest]
          move ! (2 ∷ 3 ∷ []) $ fjoin ! $ move ! (0 ∷ 3 ∷ []) $ fjoin ! $ keep ! (0 ∷ 1 ∷ []) $ done !)
