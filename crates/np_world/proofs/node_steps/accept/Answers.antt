use Rattle.std.proofs.Common.{◌≡◌, Ok, Err, length, ap, refl, sym, ◌∙◌, arith}
use Rattle.std.specs.Prelude.{chars}
use Rattle.np_node.specs.Nodes.{state_of}
use Rattle.np_node.specs.declared.accepting.Accepted.TheVariants as answer
use Rattle.np_node.specs.declared.taking.Taken.TheVariants as taken
use Rattle.np_world.specs.Calls.{CallsAccept}
use Rattle.np_world.specs.inside.Views.{bytes_of, stage_of}
use Rattle.np_world.specs.declared.replies.Reply.TheVariants.{Sent}
use Rattle.np_world.proofs.DoneLemmas.{accept_answers, accept_leaves, bytes_pushed, if_told, length-bytes, tells_kept}
use Rattle.np_world.proofs.node_steps.accept.Goals as goal

pub returns-in-Ok-Known : goal.returns-in-Ok-Known
returns-in-Ok-Known g c =
    let model = g.T.NormTable.model in
    let old = c.args.replay_node.now in
    let same = c.in-Ok-Known.is ∙ ap Ok c.in-Ok-Known.field-0-is in
    record {
      bytes = c.args.string.now;
      spells = record { utf8 = c.utf8.string; text_is = refl };
      answer = Ok taken.Known;
      answers = accept_answers (state_of model old.node) c.as_bytes.result.now c.args.string.now c.accept.result (Ok answer.Known) c.as_bytes.ensures.value same c.accept.ensures.answer;
      leaves = accept_leaves model old.node c.accept.new.self c.as_bytes.result.now c.args.string.now c.accept.result (Ok answer.Known) c.as_bytes.ensures.value same c.accept.ensures.node;
      stays = record { index = refl; image = refl };
      sends = refl;
      told = refl;
    }

pub returns-in-Err : goal.returns-in-Err
returns-in-Err g c =
    let model = g.T.NormTable.model in
    let old = c.args.replay_node.now in
    let sent = bytes_of c.args.sent.now.items in
    if_told c.refusal.result (λ reply. CallsAccept model (chars c.args.string.now) (stage_of old sent) reply (stage_of (record old { node = c.accept.new.self }) sent)) (λ reply is. record {
      bytes = c.args.string.now;
      spells = record { utf8 = c.utf8.string; text_is = refl };
      answer = Err c.in-Err.fault;
      answers = accept_answers (state_of model old.node) c.as_bytes.result.now c.args.string.now c.accept.result (Err c.in-Err.fault) c.as_bytes.ensures.value c.in-Err.is c.accept.ensures.answer;
      leaves = accept_leaves model old.node c.accept.new.self c.as_bytes.result.now c.args.string.now c.accept.result (Err c.in-Err.fault) c.as_bytes.ensures.value c.in-Err.is c.accept.ensures.node;
      stays = record { index = refl; image = refl };
      sends = refl;
      told = sym c.refusal.ensures ∙ is;
    })

pub returns-in_ok-push-in-Ok-Kept : goal.returns-in_ok-push-in-Ok-Kept
returns-in_ok-push-in-Ok-Kept g c =
    let model = g.T.NormTable.model in
    let old = c.args.replay_node.now in
    let message = c.in-Ok-Kept.message in
    let same = c.in-Ok-Kept.is ∙ ap Ok c.in-Ok-Kept.field-0-is in
    let leaves = accept_leaves model old.node c.accept.new.self c.as_bytes.result.now c.args.string.now c.accept.result (Ok (answer.Kept message)) c.as_bytes.ensures.value same c.accept.ensures.node in
    let count : c.len-number.result ≡ length c.args.sent.now.items = omega arith in
    record {
      bytes = c.args.string.now;
      spells = record { utf8 = c.utf8.string; text_is = refl };
      answer = Ok taken.Kept;
      answers = accept_answers (state_of model old.node) c.as_bytes.result.now c.args.string.now c.accept.result (Ok (answer.Kept message)) c.as_bytes.ensures.value same c.accept.ensures.answer;
      leaves = record { key = leaves.key; is_key = leaves.is_key; kept = leaves.kept };
      stays = record { index = refl; image = refl };
      sends = (message.items, tells_kept model old.node c.accept.new.self c.args.string.now message.items leaves, bytes_pushed c.args.sent.now.items _ message c.in_ok-push-in-Ok-Kept.ensures.items);
      told = ap (λ n. Ok (Sent n)) (length-bytes c.args.sent.now.items ∙ sym count);
    }
