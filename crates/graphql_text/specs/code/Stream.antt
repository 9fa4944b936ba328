-- What contracts see of a sink over a writer.
use Rattle.std.specs.Prelude.{Option}
use Rattle.std.specs.declared.io.Error.{Error}
use Rattle.graphql_text.specs.declared.sink.stream.StreamSink.{StreamSink}

module _ {W : Type 0} where
  abbrev pub stream_writer : StreamSink W → W
  stream_writer s = s.writer

  -- the error that its writer answered last
  abbrev pub stream_error : StreamSink W → Option Error
  stream_error s = s.last_error
