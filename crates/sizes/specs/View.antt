-- Where the parts of a channel's sections lie. Assumes nothing.
use Rattle.std.specs.Prelude.{ℕ, ◌+◌, ◌*◌}
use Rattle.model.specs.Sizes as Model
use Rattle.model.specs.Sizes.{most_waiting}
use Rattle.sizes.specs.declared.Offsets.{Offsets}

-- the waiting samples start a section of the f32 area, and the waiting sequences one of the u32 area
unfoldable pub queue_at : Model.Sizes → ℕ
queue_at z = most_waiting z * z.packet

abbrev pub offsets_of : Model.Sizes → Offsets
offsets_of z =
    record {
      queue = queue_at z;
      row = queue_at z + (z.target + z.packet);
      spectrum = queue_at z + (z.target + z.packet) + z.bins;
      smoothing = queue_at z + (z.target + z.packet) + 2 * z.bins;
      picture = most_waiting z;
    }
