use Rattle.std.proofs.Common.{List, ℕ, inl, inr, refl, subst}
use Rattle.np_caseless.specs.Folded.{FoldedVersion}
use Rattle.np_foldings.specs.Lowercases.{AreLowercases}
use Rattle.np_jobs.proofs.EndLemmas.{same_stream}
use Rattle.np_jobs.specs.Streams.{Stream, stream_of}
use Rattle.np_caseless_job.specs.FoldedVersions.{HasFoldings, IsConditionFault}
use Rattle.np_caseless_job.proofs.versions.read_folded.Goals as goal

pub returns-clause-refused : goal.returns-clause-refused
returns-clause-refused g c =
    let tells = g.R.Read.remaining in
    let v : FoldedVersion = record { version = g.T.NormTable.model c.in_ok-bytes.table; foldings = c.in_ok-foldings.foldings } in
    let data_file = stream_of tells c.args.files.now.data_file c.read_version_and_bytes.new.data_file in
    let folding_file = same_stream tells c.clear.new.self c.args.files.now.folding_file c.read_folding_file.new.folding_file c.clear.ensures.device in
    let foldings = subst (λ (s : Stream). HasFoldings s c.in_ok-foldings.foldings) folding_file c.in_ok-foldings.ensures.read in
    let condition : IsConditionFault data_file v c.in-Err.fault = elim c.in-Err.ensures.refused [
      | inl memory ↦ inl memory
      | inr (lowercases, are, least) ↦ inr (
        lowercases,
        record {
          bytes = c.in_ok-bytes.bytes.items;
          read = c.in_ok-bytes.ensures.read;
          are = subst (λ (bs : List ℕ). AreLowercases bs lowercases) c.as_slice.ensures.value are;
        },
        least,
      )
    ] in
    inr (inr (v, c.in_ok-bytes.ensures.built, foldings, (c.in-Err.fault, refl, condition)))
