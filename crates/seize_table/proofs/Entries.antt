-- What is known of an entry can be had twice, and an entry has one label. Assumes `Logic`.
use Rattle.seize_table.proofs.Kit.{◌≡◌, ℕ, List, [], ◌∷◌, sym, refl, ap, ◌∙◌, Ura, vstruct, vnil, ent, sep, emp, Fml, Logic, sem, ‵, raw, ◌⊛◌, ◌$◌, ◌∵◌, !, qed, by, move, split, fsplit, fjoin, fpick, fpack, use1, use2, rewrite, done, fact, fact_i, RattleType, Struct, shape, makes_shadow, heard}
use Rattle.std.specs.Prelude.{IfSome}
use Rattle.std.specs.List.{slice_get}
use Rattle.std.specs.declared.option.Option.{Option}
use Rattle.std.specs.declared.option.Option.TheVariants.{None, Some}
use Rattle.std.specs.contracts.alloc.Global as heap
use Rattle.std.specs.contracts.impls.GlobalAllocator.TheImpl.{ghosts}
use Rattle.std.specs.contracts.vec.Vec as vec
use Rattle.core.specs.contracts.option.Option as option
use Rattle.once_cell.specs.contracts.race.once_box.OnceBox as once
use Rattle.once_cell.proofs.Notes as notes
use Rattle.seize_table.specs.declared.labelled.Labelled.{Ghosts}
use Rattle.seize_table.specs.contracts.tls.cells.Entry as entry
use Rattle.seize_table.specs.Filled.{EntryPlace, filled_at, shown_by, known_bucket, known_item, row_row, item_row, name_in}
use Rattle.seize_table.specs.Table.{Cell, Row}
use Rattle.seize_table.specs.contracts.tls.filled_at.FilledAt as filled_at_row
use Rattle.seize_table.proofs.Places.{one_place}
use Rattle.seize_table.proofs.Meanings.{token}

abbrev pub FilledAt : RattleType
FilledAt = filled_at_row.the_row

abbrev pub Data : Fml
Data = (Struct (shape filled_at_row.the_type)).own_val (tt, tt) (token ∷ [])

-- the rows of a table's bucket and entry, of values of any type
abbrev pub ItemOf : (R : RattleType) → Ghosts R.Denot → RattleType
ItemOf R g = option.the_row (entry.the_row R g)

abbrev pub RowOf : (R : RattleType) → Ghosts R.Denot → RattleType
RowOf R g = vec.the_row (once.the_row (ItemOf R g)) heap.the_row ghosts

abbrev or_else : {X : Type 0} → X → Option X → X
or_else x None = x
or_else x (Some y) = y

pub some_is : {X : Type 0} {x y : X} → ◌≡◌ {A = Option X} (Some x) (Some y) → x ≡ y
some_is {x = x} e = ap (or_else x) e

pub both_known : {X : Type 0} (x : X) (k : Option X) → IfSome k (λ y. x ≡ y) → IfSome k (λ y. ◌≡◌ {A = Option X} (Some x) (Some y))
both_known x None h = h
both_known x (Some y) h = ap Some h

-- one entry of one bucket is one cell
pub one_cell : {r s : Row} {e f : ℕ} {c d : Cell} → r ≡ s → e ≡ f → slice_get r.items e ≡ Some c → slice_get s.items f ≡ Some d → c ≡ d
one_cell {r = r} {f = f} same at here there = some_is (sym here ∙ (ap (λ n. slice_get r.items n) at ∙ (ap (λ (s : Row). slice_get s.items f) same ∙ there)))

module _ {M : Type 1} {𝓤 : Ura M} (𝓛 : Logic 𝓤) where
  pub filled_at_made : ent 𝓤 (emp 𝓤) (sem 𝓛 Data)
  filled_at_made = makes_shadow 𝓛 Data (λ vss. (tt, ((λ uss. (tt, tt)), tt))) ((vstruct vnil ∷ [], tt), (refl, ((tt, (refl, tt)), tt)))

  module _ (table : List ℕ) (number : ℕ) where
    pub filled_twice : (label : ℕ) → ent 𝓤 (sem 𝓛 (filled_at table number label)) (sep 𝓤 (sem 𝓛 (filled_at table number label)) (sem 𝓛 (filled_at table number label)))
    filled_twice label = qed 𝓛 (‵ (filled_at table number label) ∷ []) ∵ fpick ! (λ w. let R : Fml = known_bucket (name_in table w.bucket) w.row in let I : Fml = known_item w.cell.1 label w.value in
        fsplit ! $ use1 𝓛 (‵ R ⊛ ‵ R) (notes.noted_twice 𝓛 row_row (name_in table w.bucket) (Some w.row)) $ split ! $ move ! (2 ∷ []) $ use1 𝓛 (‵ I ⊛ ‵ I) (notes.noted_twice 𝓛 item_row w.cell.1 (Some (Some (label, w.value)))) $ split ! $
        move ! (2 ∷ 0 ∷ []) $ fjoin ! $ fpack ! (EntryPlace number) (shown_by table number label) w $ move ! (2 ∷ 1 ∷ []) $ fjoin ! $ fpack ! (EntryPlace number) (shown_by table number label) w $ done !)

    pub filled_agree : (k j : ℕ) → ent 𝓤 (sep 𝓤 (sem 𝓛 (filled_at table number k)) (sem 𝓛 (filled_at table number j))) (fact 𝓤 (k ≡ j))
    filled_agree k j = qed 𝓛 (‵ (filled_at table number k) ∷ ‵ (filled_at table number j) ∷ []) ∵ fpick ! (λ v. move ! (1 ∷ []) $ fpick ! (λ w. fsplit ! $ move ! (2 ∷ []) $ fsplit ! $
        -- [the one's bucket and its entry; the other's]
        let place = one_place number v.bucket v.entry w.bucket w.entry v.placed w.placed in let Same : Type 0 = v.row ≡ w.row in let One : Type 0 = ◌≡◌ {A = Option (ℕ × ℕ)} (Some (k, v.value)) (Some (j, w.value)) in
        rewrite ! 0 (λ (b : ℕ). ‵ (known_bucket (name_in table b) v.row)) place.0 refl $ move ! (0 ∷ 2 ∷ []) $
        use2 𝓛 (raw (fact 𝓤 Same)) (notes.noted_agree 𝓛 row_row (name_in table w.bucket) (Some v.row) (Some w.row)) $ heard ! Same (λ same. let cell : v.cell ≡ w.cell = one_cell same place.1 v.here w.here in
        rewrite ! 0 (λ (c : Cell). ‵ (known_item c.1 k v.value)) cell refl $
        use2 𝓛 (raw (fact 𝓤 One)) (notes.noted_agree 𝓛 item_row w.cell.1 (Some (Some (k, v.value))) (Some (Some (j, w.value)))) $ heard ! One (λ one. by ! (fact_i 𝓤 (k ≡ j) _ (ap (λ (e : ℕ × ℕ). e.0) (some_is one)))))))
