pub mod Packets
