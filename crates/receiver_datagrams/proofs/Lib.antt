pub mod DatagramCalls
