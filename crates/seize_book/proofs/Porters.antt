-- A porter that has all tickets comes home: nobody may add then, until it goes off, or gives the first pass in its place, which is alone.
-- A new key is given a ticket of a porter that is off. Assumes `Logic`.
use Rattle.std.proofs.Common.{◌≡◌, ℕ, suc, Bool, true, false, List, [], ◌∷◌, refl, sym, ◌∙◌, arith}
use seplogic.Ra.Ura.{Ura}
use base.Growing.{prefix_trans}
use base.Logic.{SProp, ent, sep, ex, guard, upd_i}
use base.Fml.{Fml, ftrue, finv}
use types.Logic.{Logic, sem}
use types.Growing.{at_least_dup}
use types.Kit.{‵, raw, ◌⊛◌, some, given, later, ◌$◌, ◌∵◌, !, qed, by, move, keep, drop, split, split3, join, fsplit, fjoin, fpick, fpack, pick, learn, show, check, frame, assume, suffices, done, use1, use2, use3, updating, await, now}
use denote.Steps.{nothing}
use Rattle.seize_machine.specs.Machine.State.{State}
use Rattle.seize_book.specs.Ledger.{AllApart, HeldKey, Known, WithKinds, fact, logs, reached}
use Rattle.seize_book.specs.Entry.{Entry, entry_coded}
use Rattle.seize_book.specs.Book.{after, kinds, mine, rules}
use Rattle.seize_book.specs.Fair.{pass_key}
use Rattle.seize_book.specs.Loans.{AllCarryOne}
use Rattle.seize_book.specs.Tokens.{Name, beside, gate_gives, gate_keeps, gate_leaves, inside, knows, pass_holds, pass_owns, places_known, porter_at, porter_owns, rows, start}
use Rattle.seize_book.specs.Porters.{ComesHome, WasWhole, GoesOnTo, Shuts}
use Rattle.seize_book.proofs.Append.{looks_beside}
use Rattle.seize_book.proofs.Apart.{all_apart}
use Rattle.seize_book.proofs.Gates.{comes_home, first_comes, first_goes, gives_one, goes_off}
use Rattle.seize_book.proofs.Looks.{Idle, apart, together}
use Rattle.seize_book.proofs.Notes.{distinct_links, knows_twice, opens}
use Rattle.seize_book.proofs.Passes.{IsDistinct, rights}
use Rattle.seize_book.proofs.Ways.{found_lent}

module _ {M : Type 1} {𝓤 : Ura M} (𝓛 : Logic 𝓤) (n : Name) where
  open 𝓛 use {H}

  abbrev Pr : Type 2
  Pr = SProp 𝓤

  abbrev ◌⊢◌ : Pr → Pr → Type 1
  P ⊢ Q = ent 𝓤 P Q

  abbrev ◌∗◌ : Pr → Pr → Pr
  P ∗ Q = sep 𝓤 P Q

  abbrev ⟦◌⟧ : Fml → Pr
  ⟦ P ⟧ = sem 𝓛 P

  infix 26 ◌⊢◌
  infixr 35 ◌∗◌
  abbrev st : State
  st = start n

  abbrev had : List Entry → Fml
  had log = reached entry_coded n.log log

  abbrev keeps : List Entry → Fml
  keeps log = gate_keeps n.gate log

  abbrev leaves : Bool → ℕ → List Entry → Fml
  leaves home out seen = gate_leaves n.gate home out seen

  abbrev gives : ℕ → List Entry → Fml
  gives p seen = gate_gives n.gate p seen

  abbrev first : List Entry → Fml
  first own = rights 𝓛 n (pass_key 0 own ∷ [])

  -- a porter, taken apart: the key of the first pass, what it has seen, and what it has of the gate
  abbrev Taken : Bool → ℕ → List Entry → List Entry → Pr
  Taken home out seen own = guard 𝓤 (Idle 𝓛 n 0 own seen) (⟦ first own ⟧ ∗ ⟦ had seen ⟧ ∗ ⟦ leaves home out seen ⟧)

  abbrev taken : Bool → ℕ → List Entry → types.Kit.Item 𝓤
  taken home out seen = some (λ (own : List Entry). given (Idle 𝓛 n 0 own seen) (‵ (first own) ⊛ ‵ (had seen) ⊛ ‵ (leaves home out seen)))

  abbrev pub holds : Bool → ℕ → List Entry → Fml
  holds home out seen = base.Fml.fex (List Entry) (porter_at n home out seen)

  pub takes : (home : Bool) (out : ℕ) (seen : List Entry) → ⟦ holds home out seen ⟧ ⊢ ex 𝓤 (Taken home out seen)
  takes home out seen = qed 𝓛 (‵ (holds home out seen) ∷ []) ∵ fpick ! (λ own. fsplit ! $ move ! (1 ∷ []) $ fsplit ! $ move ! (1 ∷ []) $ fsplit ! $ move ! (1 ∷ []) $ fpick ! (λ past. drop ! $
      -- [the gate; what it has seen; its key]
      nothing ! $ move ! (3 ∷ 0 ∷ []) $ fjoin ! $ show ! (Taken home out seen) own $ check ! past $ move ! (0 ∷ 2 ∷ 1 ∷ []) $ done !))

  pub whole : (home : Bool) (out : ℕ) (seen own : List Entry) → Idle 𝓛 n 0 own seen → ⟦ first own ⟧ ∗ ⟦ had seen ⟧ ∗ ⟦ leaves home out seen ⟧ ⊢ ⟦ holds home out seen ⟧
  whole home out seen own past = qed 𝓛 (‵ (first own) ∷ ‵ (had seen) ∷ ‵ (leaves home out seen) ∷ []) ∵ fsplit ! $ nothing ! $ fpack ! (Idle 𝓛 n 0 own seen) (λ _. ftrue) past $
      -- [past; its key; nothing; what it has seen; the gate]
      move ! (4 ∷ 0 ∷ []) $ fjoin ! $ move ! (3 ∷ 0 ∷ []) $ fjoin ! $ move ! (1 ∷ 0 ∷ []) $ fjoin ! $ fpack ! (List Entry) (porter_at n home out seen) own $ keep ! (0 ∷ []) $ done !

  -- The gate is changed: nothing is appended, and the holder of keys knows of all that was.
  module _ (held : List (HeldKey Entry)) (seen : List Entry) (X : Fml) (Y : List Entry → Fml) (ask : (log : List Entry) → ⟦ keeps log ⟧ ∗ ⟦ X ⟧ ⊢ ⟦ keeps log ⟧ ∗ ⟦ Y log ⟧) where
    abbrev Lent : List Entry → Type 0
    Lent log = AllCarryOne (after st log).named

    abbrev pub Changed : List Entry → Pr
    Changed log = guard 𝓤 (Known (rules st) held seen log × Lent log) (⟦ rights 𝓛 n held ⟧ ∗ ⟦ had log ⟧ ∗ ⟦ Y log ⟧)

    changes_it : (log : List Entry) → ⟦ beside n log ⟧ ∗ ⟦ X ⟧ ⊢ guard 𝓤 (Lent log) (⟦ beside n log ⟧ ∗ ⟦ Y log ⟧)
    changes_it log = let all : Fml = places_known n (after st log) in qed 𝓛 (‵ (beside n log) ∷ ‵ X ∷ []) ∵ fsplit ! $ move ! (1 ∷ []) $ fsplit ! $
        -- [the book's copy; where all is found; what has ended; what is brought]
        move ! (1 ∷ []) $ use1 𝓛 (given (Lent log) (‵ all)) (found_lent 𝓛 n (after st log)) $ learn ! (λ lent.
        move ! (1 ∷ 3 ∷ []) $ use2 𝓛 (‵ (keeps log) ⊛ ‵ (Y log)) (ask log) $ split ! $ check ! lent $
        -- [the book's copy; what is had; where all is found; what has ended]
        move ! (0 ∷ 2 ∷ []) $ fjoin ! $ move ! (2 ∷ 0 ∷ []) $ fjoin ! $ done !)

    pub changes : WithKinds kinds held → ⟦ knows n ⟧ ∗ ⟦ rights 𝓛 n held ⟧ ∗ ⟦ had seen ⟧ ∗ ⟦ X ⟧ ⊢ H.⇛ (ex 𝓤 Changed)
    changes w = let J : Fml = inside n in let Z : Pr = ex 𝓤 Changed in
        qed 𝓛 (‵ (knows n) ∷ ‵ (rights 𝓛 n held) ∷ ‵ (had seen) ∷ ‵ X ∷ []) ∵ use1 𝓛 (‵ (finv J)) (opens 𝓛 n) $ suffices ! _ (𝓛.invs.inv_acc J Z) $ frame ! $ assume ! (‵ J) $
        -- [J; the rights; what was seen; what is brought]
        move ! (2 ∷ 3 ∷ []) $ join ! $ move ! (1 ∷ 2 ∷ 0 ∷ []) $
        use3 𝓛 (some (λ (log : List Entry). given (Known (rules st) held seen log × Lent log) (‵ J ⊛ ‵ (rights 𝓛 n held) ⊛ ‵ (had log) ⊛ ‵ (Y log))))
        (looks_beside entry_coded (rules st) (beside n) n.log (rows n) 𝓛 held seen Lent ⟦ X ⟧ (λ log. ⟦ Y log ⟧) w (λ log known. changes_it log)) $
        suffices ! _ (upd_i 𝓤 (⟦ J ⟧ ∗ Z)) $ pick ! (λ log. learn ! (λ known. split ! $ frame ! $ show ! Changed log $ check ! known $ done !))

  abbrev changed : List (HeldKey Entry) → List Entry → (List Entry → Fml) → types.Kit.Item 𝓤
  changed held seen Y = later (some (λ (log : List Entry). given (Known (rules st) held seen log × AllCarryOne (after st log).named) (‵ (rights 𝓛 n held) ⊛ ‵ (had log) ⊛ ‵ (Y log))))

  -- no pass is out, and it has seen all that there is
  abbrev pub IsHome : Bool → List Entry → List Entry → Type 0
  IsHome home seen log = GoesOnTo n seen log × (mine st 0 log ≡ mine st 0 seen) × WasWhole home seen log

  abbrev pub Home : Bool → List Entry → List Entry → Pr
  Home home seen log = guard 𝓤 (IsHome home seen log) ⟦ porter_owns n true 0 log ⟧

  pub porter_home : (home : Bool) (seen : List Entry) → ⟦ porter_owns n home 0 seen ⟧ ⊢ H.⇛ (ex 𝓤 (Home home seen))
  porter_home home seen = let Has : List Entry → Fml = λ log. base.Fml.fsep (leaves true 0 log) (fact (WasWhole home seen log)) in
      qed 𝓛 (‵ (porter_owns n home 0 seen) ∷ []) ∵ updating ! $ fsplit ! $ use1 𝓛 (given (IsDistinct 𝓛 n) (‵ (knows n))) (distinct_links 𝓛 n) $ learn ! (λ distinct.
      use1 𝓛 (‵ (knows n) ⊛ ‵ (knows n)) (knows_twice 𝓛 n) $ split ! $ move ! (2 ∷ []) $ use1 𝓛 (taken home 0 seen) (takes home 0 seen) $ pick ! (λ own. learn ! (λ past. split3 ! $
      -- [its key; what it has seen; the gate; the book, twice]
      move ! (1 ∷ 2 ∷ []) $ join ! $ move ! (2 ∷ 1 ∷ 0 ∷ []) $ let held : List (HeldKey Entry) = pass_key 0 own ∷ [] in
      use3 𝓛 (changed held seen Has) (changes held seen (leaves home 0 seen) Has (still_home home seen) (omega arith, tt)) $ await ! tt $ pick ! (λ log. learn ! (λ known. split3 ! $
      -- [its key; what was reached; the gate, and that it was so; the book]
      move ! (2 ∷ []) $ fsplit ! $ move ! (1 ∷ []) $ fpick ! (λ still. drop ! $
      let same : mine st 0 own ≡ mine st 0 log = known.0.2.0.1 in let is_so : GoesOnTo n seen log = record { grows = known.0.1; legal = known.0.0.0; sound = known.0.0.1; lent = known.1; distinct = distinct } in
      move ! (1 ∷ 2 ∷ 0 ∷ []) $ use3 𝓛 (‵ (holds true 0 log)) (whole true 0 log own (prefix_trans own seen log past.0 known.0.1, same)) $
      -- [the porter; the book]
      now ! $ show ! (Home home seen) log $ check ! (is_so, sym same ∙ past.1, still) $ move ! (1 ∷ 0 ∷ []) $ fjoin ! $ done !))))))
    where
      still_home : (home : Bool) (seen log : List Entry) → ⟦ keeps log ⟧ ∗ ⟦ leaves home 0 seen ⟧ ⊢ ⟦ keeps log ⟧ ∗ ⟦ base.Fml.fsep (leaves true 0 log) (fact (WasWhole home seen log)) ⟧
      still_home home seen log = qed 𝓛 (‵ (keeps log) ∷ ‵ (leaves home 0 seen) ∷ []) ∵ use2 𝓛 (given (WasWhole home seen log) (‵ (keeps log) ⊛ ‵ (leaves true 0 log))) (comes_home 𝓛 n.gate home log seen) $
          learn ! (λ still. split ! $ move ! (1 ∷ []) $ nothing ! $ fpack ! (WasWhole home seen log) (λ _. ftrue) still $ move ! (1 ∷ 0 ∷ []) $ fjoin ! $ move ! (1 ∷ 0 ∷ []) $ done !)

  pub home_by : {size : ℕ} (home : Bool) (seen log : List Entry) → IsHome home seen log
      → ComesHome (record { marker = record {}; name = n; size = size; seen = seen; home = home }) (record { marker = record {}; name = n; size = size; seen = log; home = true })
  home_by home seen log is = record { book = (refl, refl); home = refl; goes_on = is.0; none_made = is.1; was = is.2 }

  pub shut_by : {size : ℕ} (home : Bool) (seen log : List Entry) → IsHome home seen log
      → Shuts (record { marker = record {}; name = n; size = size; seen = seen; home = home }) (record { marker = record {}; name = n; id = 0; size = size; seen = log })
  shut_by home seen log is = record { book = (refl, refl); alone = refl; goes_on = is.0; none_made = is.1; was = is.2 }

  -- what it has at home is what the first pass has
  pub home_passes : (seen : List Entry) → ⟦ porter_owns n true 0 seen ⟧ ⊢ ⟦ pass_owns n 0 seen ⟧
  home_passes seen = qed 𝓛 (‵ (porter_owns n true 0 seen) ∷ []) ∵ fsplit ! $ move ! (1 ∷ []) $ use1 𝓛 (taken true 0 seen) (takes true 0 seen) $ pick ! (λ own. learn ! (λ past. split3 ! $
      -- [its key; what it has seen; the gate; the book]
      move ! (2 ∷ []) $ use1 𝓛 (‵ (gives 0 seen)) (first_goes 𝓛 n.gate seen) $ move ! (1 ∷ 2 ∷ 0 ∷ []) $ use3 𝓛 (‵ (pass_holds n 0 seen)) (together 𝓛 n 0 seen own past) $ move ! (1 ∷ 0 ∷ []) $ fjoin ! $ done !))

  pub pass_homes : (seen : List Entry) → ⟦ pass_owns n 0 seen ⟧ ⊢ ⟦ porter_owns n true 0 seen ⟧
  pass_homes seen = qed 𝓛 ((‵ (knows n) ⊛ ‵ (pass_holds n 0 seen)) ∷ []) ∵ split ! $ move ! (1 ∷ []) $
      use1 𝓛 (some (λ (own : List Entry). given (Idle 𝓛 n 0 own seen) (‵ (first own) ⊛ ‵ (had seen) ⊛ ‵ (gives 0 seen)))) (apart 𝓛 n 0 seen) $ pick ! (λ own. learn ! (λ past. split3 ! $
      -- [its key; what it has seen; its copy; the book]
      move ! (2 ∷ []) $ use1 𝓛 (‵ (leaves true 0 seen)) (first_comes 𝓛 n.gate seen) $ move ! (1 ∷ 2 ∷ 0 ∷ []) $ use3 𝓛 (‵ (holds true 0 seen)) (whole true 0 seen own past) $ move ! (1 ∷ 0 ∷ []) $ fjoin ! $ done !))

  -- a porter that is at home goes off
  pub porter_off : (home : Bool) (out : ℕ) (seen : List Entry) → ⟦ porter_owns n home out seen ⟧ ⊢ H.⇛ ⟦ porter_owns n false out seen ⟧
  porter_off home out seen = let X : Fml = leaves home out seen in let Y : List Entry → Fml = λ _. leaves false out seen in
      qed 𝓛 (‵ (porter_owns n home out seen) ∷ []) ∵ updating ! $ fsplit ! $ use1 𝓛 (‵ (knows n) ⊛ ‵ (knows n)) (knows_twice 𝓛 n) $ split ! $
      move ! (2 ∷ []) $ use1 𝓛 (taken home out seen) (takes home out seen) $ pick ! (λ own. learn ! (λ past. split3 ! $
      -- [its key; what it has seen; the gate; the book, twice]
      move ! (1 ∷ []) $ use1 𝓛 (‵ (had seen) ⊛ ‵ (had seen)) (at_least_dup (logs entry_coded) 𝓛 n.log seen) $ split ! $
      move ! (0 ∷ 3 ∷ []) $ join ! $ move ! (3 ∷ 2 ∷ 0 ∷ []) $ let held : List (HeldKey Entry) = pass_key 0 own ∷ [] in
      use3 𝓛 (changed held seen Y) (changes held seen X Y (λ log. goes_off 𝓛 n.gate home out log seen) (omega arith, tt)) $ await ! tt $ pick ! (λ log. learn ! (λ known. split3 ! $
      -- [its key; what was reached; the gate; what it has seen; the book]
      move ! (0 ∷ 3 ∷ 2 ∷ []) $ use3 𝓛 (‵ (holds false out seen)) (whole false out seen own past) $ now ! $ move ! (2 ∷ 0 ∷ []) $ fjoin ! $ keep ! (0 ∷ []) $ done !))))

  -- what it knows can be had beside it
  pub porter_knows : (home : Bool) (out : ℕ) (seen : List Entry) → ⟦ porter_owns n home out seen ⟧ ⊢ ⟦ porter_owns n home out seen ⟧ ∗ ⟦ knows n ⟧ ∗ ⟦ had seen ⟧
  porter_knows home out seen = qed 𝓛 (‵ (porter_owns n home out seen) ∷ []) ∵ fsplit ! $ use1 𝓛 (‵ (knows n) ⊛ ‵ (knows n)) (knows_twice 𝓛 n) $ split ! $
      move ! (2 ∷ []) $ use1 𝓛 (taken home out seen) (takes home out seen) $ pick ! (λ own. learn ! (λ past. split3 ! $
      -- [its key; what it has seen; the gate; the book, twice]
      move ! (1 ∷ []) $ use1 𝓛 (‵ (had seen) ⊛ ‵ (had seen)) (at_least_dup (logs entry_coded) 𝓛 n.log seen) $ split ! $
      move ! (2 ∷ 0 ∷ 3 ∷ []) $ use3 𝓛 (‵ (holds home out seen)) (whole home out seen own past) $
      -- [the porter; what it has seen; the book, twice]
      move ! (2 ∷ 0 ∷ []) $ fjoin ! $ move ! (0 ∷ 2 ∷ 1 ∷ []) $ done !))

  abbrev its_key : ℕ → List Entry → Fml
  its_key p own = rights 𝓛 n (pass_key p own ∷ [])

  -- whoever has a new key is given a ticket
  pub out_one : (m p : ℕ) (seen own x : List Entry) → ⟦ porter_owns n false m seen ⟧ ∗ ⟦ its_key p own ⟧ ⊢ guard 𝓤 (¬ (p ≡ 0)) (⟦ porter_owns n false (suc m) seen ⟧ ∗ ⟦ its_key p own ⟧ ∗ ⟦ gives p x ⟧)
  out_one m p seen own x = qed 𝓛 (‵ (porter_owns n false m seen) ∷ ‵ (its_key p own) ∷ []) ∵ fsplit ! $ move ! (1 ∷ []) $ use1 𝓛 (taken false m seen) (takes false m seen) $ pick ! (λ b. learn ! (λ past. split3 ! $
      -- [its key; what it has seen; the gate; the book; the pass's key]
      let held : List (HeldKey Entry) = pass_key 0 b ∷ pass_key p own ∷ [] in fsplit ! $ move ! (0 ∷ 5 ∷ []) $ fjoin ! $
      use1 𝓛 (given (AllApart held) (‵ (rights 𝓛 n held))) (all_apart entry_coded (rows n) 𝓛 held) $ learn ! (λ differ. let other : ¬ (p ≡ 0) = λ e. differ.0.0 (refl, sym e) in
      -- [both keys; nothing; the gate; what it has seen; the book]
      move ! (3 ∷ []) $ use1 𝓛 (‵ (leaves false (suc m) seen) ⊛ ‵ (gives p x)) (gives_one 𝓛 n.gate m p x seen other) $ split ! $ move ! (2 ∷ []) $ fsplit ! $
      -- [its key; the pass's; the gate; the ticket; nothing; what it has seen; the book]
      move ! (0 ∷ 4 ∷ []) $ fjoin ! $ move ! (0 ∷ 4 ∷ 2 ∷ []) $ use3 𝓛 (‵ (holds false (suc m) seen)) (whole false (suc m) seen b past) $
      -- [the porter; the pass's key; the ticket; the book]
      move ! (3 ∷ 0 ∷ []) $ fjoin ! $ check ! other $ done !)))
