-- The lent work buffers of a run over both strands.
use Rattle.std.specs.Prelude.{◌≡◌}
use Rattle.mask.specs.declared.Workspace.{Workspace}

-- The same buffers.
pub record SameBuffers (old new : Workspace) : Type 0 where
  pub queue : new.queue.ghost_name ≡ old.queue.ghost_name
  pub window_counts : new.window_counts.ghost_name ≡ old.window_counts.ghost_name
  pub scan_counts : new.scan_counts.ghost_name ≡ old.scan_counts.ghost_name
  pub candidates : new.candidates.ghost_name ≡ old.candidates.ghost_name
  pub reverse_codes : new.reverse_codes.ghost_name ≡ old.reverse_codes.ghost_name
  pub forward_list : new.forward_list.ghost_name ≡ old.forward_list.ghost_name
  pub reverse_list : new.reverse_list.ghost_name ≡ old.reverse_list.ghost_name
