use Rattle.std.proofs.Common.{◌≡◌, take}
use Rattle.galley.specs.Loads.{byte_count, bytes_of}
use Rattle.galley.proofs.load.load_bytes.Given as goal

abbrev pub invariant-loop-token : goal.invariant-loop-token
invariant-loop-token l = record {
  count : l.end ≡ byte_count (take l.token-index l.token-items);
  loaded : take l.end l.memory ≡ bytes_of l.source.text.now (take l.token-index l.token-items);
}
