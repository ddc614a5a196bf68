-- All is reclaimed: in turn, and then what was put meanwhile. And what the model's reclaim of all leaves.
--     gone_of, waits_of         the values that are gone in turn;  what waits then is what these put
--     all_goes                   both together are the model's
--     all_size, all_links, all_many, all_free     the size and the links stay, and as many slots; and each is free
use Rattle.std.proofs.Common.{◌≡◌, ℕ, zero, suc, true, List, [], ◌∷◌, length, map, Option, get_or, refl, sym, ap, subst, ◌∙◌}
use Rattle.std.specs.List.{range_with_len}
use Rattle.std.proofs.lemmas.List.{length-map}
use base.Stored.{Coded}
use Rattle.seize_model.specs.Waiting.Attempt.{part}
use Rattle.seize_model.specs.Waiting.Calls.{is_free, part_all, reclaim_all, set_guards}
use Rattle.seize_model.specs.Waiting.Further.{further, gone_from}
use Rattle.seize_model.specs.Waiting.State.{ModelSlot, ModelState, unmade_slot, set_slot, model_slot}
use Rattle.seize_model.proofs.WaitingSets.Beside.{releases_beside}
use Rattle.seize_book.specs.Book.{IsLegalList}
use Rattle.seize_book.specs.Entry.{Entry}
use Rattle.seize_book.specs.Kept.{kepts_in}
use Rattle.seize_book.specs.Ledger.{HeldKey}
use Rattle.seize_book.specs.Private.{labels_of}
use Rattle.seize_book.specs.Tokens.{Name, start}
use Rattle.seize_book.specs.Values.{IsEmptyIn}
use Rattle.seize_book.specs.declared.book.pass.Pass.{Pass}
use Rattle.seize_calls.specs.Furthers.{further_in}
use Rattle.seize_calls.specs.declared.further.Further.{Further}
use Rattle.seize_alone.specs.Holding.{Holds}
use Rattle.seize_alone.specs.Reclaiming.{in_turn}
use Rattle.seize_alone.proofs.Forgotten.{all_gone_held}
use Rattle.seize_alone.proofs.Reclaiming.{off_slot, parted_all}
use Rattle.seize_parts.specs.Aparts.{AreWaiting, Goes, GoesAll, MayGo}
use Rattle.seize_parts.specs.Told.{told_of}
use Rattle.seize_parts.specs.declared.alone.place.Place.{Place}
use Rattle.seize_parts.proofs.Aparts.{told_both, told_had, waits_further}

module _ {T Seen : Type 0} (c : Coded T) (puts : ℕ → T → List T) (weight : T → ℕ) (told : Seen → T → Seen) (places : List (Option (Place T))) (pass pass' : Pass) (seen seen' : Seen) (queue queue' : Further)
    (goes : Goes c.code puts told (MayGo pass places) (λ st. in_turn st) pass pass' seen seen' queue queue') (empty : IsEmptyIn pass.name (further_in queue)) where
  abbrev gone_of : ModelState T ℕ → List (T × ℕ)
  gone_of st = (in_turn st).1

  waits_of : (st : ModelState T ℕ) (names : List (ℕ × T)) (kinds : List (ℕ × ℕ)) → MayGo pass places st → Holds c.code st names kinds pass.name pass.seen → AreWaiting c.code queue' (further puts (gone_of st))
  waits_of st names kinds may holds =
      waits_further c puts pass.name goes.had (gone_of st) queue queue' (goes.holds st names kinds may holds).1 goes.put goes.waits (ap (λ (held : List (HeldKey Entry)). labels_of held) empty.1) (ap (λ (held : List (HeldKey Entry)). kepts_in held) empty.1)

  pub all_goes : (later : Pass) (last : Seen) → IsLegalList (start pass.name) pass.seen → later ≡ pass' → ((vs : List (T × ℕ)) → AreWaiting c.code queue' vs → last ≡ told_of told seen' (gone_from puts weight vs))
      → GoesAll c.code puts weight told (MayGo pass places) pass later seen last
  all_goes later last legal same tells st names kinds may holds =
      let then = goes.holds st names kinds may holds in let gone = gone_of st in let now = then.0 in
      let here : Holds c.code (in_turn st).0 now.0 now.1 pass.name pass'.seen = subst (λ (n : Name). Holds c.code (in_turn st).0 now.0 now.1 n pass'.seen) goes.same.0 now.2 in
      let all = all_gone_held c.code puts weight st names now.0 kinds now.1 pass.name pass.seen pass'.seen legal may.0.1 holds here in
      let after = (reclaim_all puts weight st).0 in (
        (now.0, now.1, subst (λ (p : Pass). Holds c.code after now.0 now.1 p.name p.seen) (sym same) (subst (λ (n : Name). Holds c.code after now.0 now.1 n pass'.seen) (sym goes.same.0) all.0)),
        tells (further puts gone) (waits_of st names kinds may holds) ∙ ap (λ (s : Seen). told_of told s (gone_from puts weight (further puts gone))) (told_had c told seen seen' goes.had gone then.1 goes.tells)
            ∙ told_both told seen gone (gone_from puts weight (further puts gone)) ∙ ap (λ (vs : List (T × ℕ)). told_of told seen vs) all.1,
      )

-- What the model's reclaim of all leaves.

module _ {T : Type 0} (puts : ℕ → T → List T) (weight : T → ℕ) where
  parts_size : (st : ModelState T ℕ) (ss : List ℕ) → (part_all st ss).0.size ≡ st.size
  parts_size st [] = refl
  parts_size st (s ∷ ss) = parts_size (set_guards (part st s).0 s 0) ss ∙ releases_beside (λ (k : ModelState T ℕ). k.size) (λ k retired. refl) (set_slot st s (record (model_slot st s) { order = [] })) (model_slot st s).order

  parts_links : (st : ModelState T ℕ) (ss : List ℕ) → (part_all st ss).0.links ≡ st.links
  parts_links st [] = refl
  parts_links st (s ∷ ss) = parts_links (set_guards (part st s).0 s 0) ss ∙ releases_beside (λ (k : ModelState T ℕ). k.links) (λ k retired. refl) (set_slot st s (record (model_slot st s) { order = [] })) (model_slot st s).order

  pub all_size : (st : ModelState T ℕ) → (reclaim_all puts weight st).0.size ≡ st.size
  all_size st = parts_size st (range_with_len 0 (length st.slots))

  pub all_links : (st : ModelState T ℕ) → (reclaim_all puts weight st).0.links ≡ st.links
  all_links st = parts_links st (range_with_len 0 (length st.slots))

  abbrev parted : ModelState T ℕ → List (ModelSlot T ℕ)
  parted st = (part_all st (range_with_len 0 (length st.slots))).0.slots

  pub all_many : (st : ModelState T ℕ) → length (reclaim_all puts weight st).0.slots ≡ length st.slots
  all_many st = length-map (parted st) (λ (slot : ModelSlot T ℕ). unmade_slot) ∙ ap (λ (slots : List (ModelSlot T ℕ)). length slots) (parted_all st) ∙ length-map st.slots (λ (slot : ModelSlot T ℕ). off_slot slot)

  each_free : (slots : List (ModelSlot T ℕ)) (s : ℕ) → is_free (get_or (map (λ (slot : ModelSlot T ℕ). unmade_slot {T = T} {R = ℕ}) slots) s unmade_slot).kind ≡ true
  each_free [] s = refl
  each_free (x ∷ slots) zero = refl
  each_free (x ∷ slots) (suc s) = each_free slots s

  pub all_free : (st : ModelState T ℕ) (s : ℕ) → is_free (model_slot (reclaim_all puts weight st).0 s).kind ≡ true
  all_free st s = each_free (parted st) s
