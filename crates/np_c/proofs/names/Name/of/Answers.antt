use Rattle.std.proofs.Common.{◌≡◌}
use Rattle.np_c.proofs.NameLemmas.{padded}
use Rattle.np_c.proofs.names.Name.of.Goals as goal

pub returns : goal.returns
returns c =
    let copied : c.copy_from_slice.new.self ≡ c.args.name.now = rw (c.copy_from_slice.ensures.after, c.as_bytes.ensures.value) in
    record { ends = c.requires; text = padded c.copy_from_slice.new.self c.args.name.now copied }
