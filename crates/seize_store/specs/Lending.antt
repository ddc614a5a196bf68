-- What is lent of a chunk, and who has what of its content.
--     block_at X U R f p k        blocks in the room of the chunk at p, which has the tag k: their owner has a hull but for its ticket, and
--                                 whoever they are lent to has a `&` to the value
--     lender_owns X U R f p k     the content of these blocks, of the name that the tag says, and lender_shares by `&`
use Rattle.core.specs.Prelude.{ℕ}
use base.Fml.{Lft, Fml}
use denote.RattleType.{RattleType}
use denote.RawPtr.{Ptr}
use Rattle.seize_content.specs.Contents.{place, place_shares}
use Rattle.seize_content.specs.Goods.{Goods}
use Rattle.seize_table.specs.Pairs.{right_of}
use Rattle.seize_store.specs.Block.{hull_shares, lain_owns}

module _ (X U R : RattleType) (f : U.Denot → ℕ) (p : Ptr) (k : ℕ) where
  abbrev pub block_at : Goods
  block_at = record {
    Thing = R.Denot;
    own = lain_owns X U R f p k;
    shr = hull_shares X U R f p;
    code = R.coded.code;
    lives = R.lives;
  }

  abbrev pub lender_owns : Fml
  lender_owns = place block_at (right_of k)

  abbrev pub lender_shares : Lft → Fml
  lender_shares κ = place_shares block_at (right_of k) κ
