-- Blocks can be lent as their values can, and a lender passes to another thread as they may. Assumes `Logic`.
use Rattle.std.proofs.Common.{ℕ, [], ◌∷◌, ◌++◌, Bool, ◌&&◌, T, lit<, ◌∙◌}
use base.Fml.{Lft}
use base.Shift.{Keyless}
use mir.Val.{Val, has_ty, WT, vstruct, of_list}
use denote.RattleType.{RattleType}
use denote.Laws.{Is, Tells}
use denote.Param.Laws.{Laws}
use denote.Param.Send.{IsSend, IsSync}
use denote.RawPtr.{Ptr, block_ptr, null_ptr, ptr_val}
use denote.Shares.{Shares-less}
use denote.Struct.Lending.{Lends-lies}
use Rattle.std.proofs.Common.{List}
use Rattle.seize_content.specs.Goods.{Lendable}
use Rattle.seize_content.proofs.Sends.{place_sent, place_seen}
use Rattle.seize_table.specs.declared.labelled.Labelled.{Ghosts}
use Rattle.seize_table.specs.Pairs.{right_of}
use Rattle.seize_store.specs.Lending.{block_at, lender_owns, lender_shares}
use Rattle.seize_store.specs.contracts.lender.Lender as lender
use Rattle.seize_store.proofs.Fields.{single, Hull}
use Rattle.seize_store.proofs.Sends.{hull_seen, lain_owned}
use Rattle.seize_store.proofs.Showing.{hull_laws, lain_lends}

module _ (X U R : RattleType) (f : U.Denot → ℕ) (p : Ptr) (k : ℕ) where
  pub block_lendable : Laws R → Lendable (block_at X U R f p k)
  block_lendable L = record {
    shr_laws = λ x. hull_laws X U R f k L.shr_laws p x;
    lends = λ 𝓛 x l inc. lain_lends X U R f k 𝓛 p x l (λ r. Lends-lies 𝓛 R l r x (Shares-less 𝓛 R R.lives l inc (L.shares 𝓛) x));
  }

  module _ (u : IsSend U) (s : IsSend R) (y : IsSync R) where
    pub lender_sent : Keyless (lender_owns X U R f p k)
    lender_sent = place_sent (block_at X U R f p k) (λ x. lain_owned X U R f u s p k x) (λ x κ. hull_seen X U R f y p x κ) (right_of k)

    pub lender_seen : (κ : Lft) → Keyless (lender_shares X U R f p k κ)
    lender_seen κ = place_seen (block_at X U R f p k) (λ x. lain_owned X U R f u s p k x) (λ x κ'. hull_seen X U R f y p x κ') (right_of k) κ

-- the machine values of a hull, and of any pointer
module _ (X U R : RattleType) (g : Ghosts U.Denot) where
  abbrev pub hull_vals : (Hull X U R g).Denot → List Val
  hull_vals h = single (ptr_val h.at) ∷ []

  pub hull_tells : Tells (Hull X U R g) (Is (Hull X U R g)) hull_vals
  hull_tells h vs is = is.0.1.0 ∙ (λ i. vstruct (of_list (is.0.1.1.0 i ++ [])) ∷ [])

  abbrev pub Lender : RattleType
  Lender = lender.the_row X U R g

pub pointer_good : (p : Ptr) → T (has_ty mir.Syntax.ty_ptr (ptr_val p) && Bool.true) × WT (single (ptr_val p))
pointer_good (block_ptr b o) = (tt, (tt, tt))
pointer_good null_ptr = (tt, (record { fits = lit< tt }, tt))
