-- "Bytes in gaps and behind the end are ignored." (document 01, "The work file")
use Rattle.std.specs.Prelude.{ℕ, ◌+◌, ◌*◌, ◌≤◌, ◌<◌, get_or, length, List, ◌⊎◌, ◌≡◌}
use Rattle.sizes.specs.Sizes.{arrival_bytes, header_bytes, server_bytes}
use Rattle.workfile.specs.Layout.{header}
use Rattle.workfile.specs.declared.Block.{Block}
use Rattle.workfile.specs.declared.Header.{Header}
use Rattle.judgement.specs.Judgement.{length_out_of_range, layout_broken}

-- byte p lies in a record of a block
abbrev pub InBlock : Block → (bytes p : ℕ) → Type 0
InBlock b bytes p = (b.offset ≤ p) × (p < b.offset + bytes * b.count)

-- byte p lies in the header or in a record
abbrev pub Used : Header → ℕ → Type 0
Used h p = (p < header_bytes) ⊎ (InBlock h.servers server_bytes p ⊎ InBlock h.arrivals arrival_bytes p)

-- two files that have the same bytes there, and whose lengths refusals 1 and 3 judge alike
pub record SameUse (file other : List ℕ) : Type 0 where
  pub bytes : (p : ℕ) → Used (header file) p → get_or file p 0 ≡ get_or other p 0
  pub size : length_out_of_range (length file) ≡ length_out_of_range (length other)
  pub layout : layout_broken (header file) (length file) ≡ layout_broken (header file) (length other)
